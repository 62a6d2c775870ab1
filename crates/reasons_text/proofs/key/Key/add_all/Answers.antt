use Rattle.std.proofs.Common.{◌∙◌, ap}
use Rattle.std.proofs.lemmas.Result.{err_from_is_err_and}
use Rattle.csv.specs.Records.{fields_of}
use Rattle.records.specs.Reading.{marked}
use Rattle.reasons_text.specs.Naming.{both_of}
use Rattle.reasons_text.proofs.KeyLoopFacts.{bad_or_memory, row_more, rows_over, rows_start}
use Rattle.reasons_text.proofs.key.Key.add_all.Goals as goal

pub loop-rows_before-init : goal.loop-rows_before-init
loop-rows_before-init c =
    let r = c.in_ok-reader.ensures in
    rows_start c.args.numbers.now.docket.now c.args.key_bytes.now (both_of c.args.self.now) c.in_ok-reader.reader (r.config ∙ ap marked c.delimiter_of.ensures) r.reading r.state r.source

pub returns-then-not-branch-clause-all : goal.returns-then-not-branch-clause-all
returns-then-not-branch-clause-all c =
    let reads = rw c.if-not-branch.true at c.in_ok-next_row.ensures.reads in
    rows_over c.args.numbers.now.docket.now c.args.key_bytes.now (both_of c.args.self.now) (both_of c.loop-rows_before.self) c.loop-rows_before.reader c.next_row.new.reader
    c.loop-rows_before.rows_before c.loop-rows_before.invariant (fields_of c.next_row.new.row) reads

pub loop-rows_before-preserved : goal.loop-rows_before-preserved
loop-rows_before-preserved c =
    let reads = rw c.if-not-branch.false at c.in_ok-next_row.ensures.reads in
    row_more c.args.numbers.now.docket.now c.args.key_bytes.now (both_of c.args.self.now) (both_of c.loop-rows_before.self) c.loop-rows_before.reader c.next_row.new.reader
    c.loop-rows_before.rows_before c.loop-rows_before.invariant (fields_of c.next_row.new.row) (both_of c.add.new.self) reads
    (c.in_ok-next_row.ensures.reading c.if-not-branch.false) c.in_ok-add.ensures.faultless c.in_ok-add.ensures.row

pub returns-in_err-add-clause-fault : goal.returns-in_err-add-clause-fault
returns-in_err-add-clause-fault c =
    let reads = rw c.if-not-branch.false at c.in_ok-next_row.ensures.reads in
    let p = err_from_is_err_and c.from_residual-in_err-add.result c.from_residual-in_err-add.ensures.1 in
    rw (p.1, p.2) (bad_or_memory c.args.numbers.now.docket.now c.args.key_bytes.now (both_of c.args.self.now) (both_of c.loop-rows_before.self) c.loop-rows_before.reader c.next_row.new.reader
    c.loop-rows_before.rows_before c.loop-rows_before.invariant (fields_of c.next_row.new.row) _ reads c.in_err-add.ensures.fault)
