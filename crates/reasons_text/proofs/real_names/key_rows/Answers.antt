use Rattle.std.proofs.Common.{◌∙◌, ap}
use Rattle.std.proofs.lemmas.List.{map_push}
use Rattle.csv.specs.Records.{fields_of}
use Rattle.records.specs.Reading.{marked}
use Rattle.reasons_text.proofs.KeyLoopFacts.{all_read, none_read, one_read}
use Rattle.reasons_text.proofs.real_names.key_rows.Goals as goal

pub loop-n-init : goal.loop-n-init
loop-n-init c =
    let r = c.in_ok-reader.ensures in
    rw c.new-rows.ensures.items (none_read c.args.key_bytes.now _ (r.config ∙ ap marked c.delimiter_of.ensures) r.reading r.state r.source)

pub returns-then-not-has_row : goal.returns-then-not-has_row
returns-then-not-has_row c =
    let reads = rw c.if-not-has_row.true at c.in-Ok.ensures.reads in
    all_read c.args.key_bytes.now c.loop-n.reader c.next_row.new.reader _ c.loop-n.invariant (fields_of c.next_row.new.row) reads

pub loop-n-preserved : goal.loop-n-preserved
loop-n-preserved c =
    let reads = rw c.if-not-has_row.false at c.in-Ok.ensures.reads in
    rw (c.in_ok-push.ensures.items, map_push fields_of c.loop-n.rows.items c.next_row.new.row)
    (one_read c.args.key_bytes.now c.loop-n.reader c.next_row.new.reader _ c.loop-n.invariant (fields_of c.next_row.new.row) reads (c.in-Ok.ensures.reading c.if-not-has_row.false))
