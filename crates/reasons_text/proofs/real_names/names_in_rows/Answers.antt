use Rattle.std.proofs.Common.{◌≡◌, ◌≤◌, ◌+◌, ◌∙◌, None, ap, arith, inl, inr, length, map, sym, take, take_all}
use Rattle.std.specs.Prelude.{◌⊎◌, Some}
use Rattle.std.proofs.lemmas.List.{length-map}
use Rattle.csv.specs.Records.{fields_of}
use Rattle.records.specs.Reading.{Fields}
use Rattle.reasons_text.specs.Naming.{both_of}
use Rattle.reasons_text.proofs.RealFacts.{has_all, has_fault, has_more, has_none, rows_before, rows_to}
use Rattle.reasons_text.proofs.real_names.names_in_rows.Goals as goal

pub loop-k-init : goal.loop-k-init
loop-k-init c = has_none c.args.docket.now (both_of c.in_ok-key.key) _ c.in_ok-key.ensures c.in_ok-names.ensures

pub loop-k-preserved : goal.loop-k-preserved
loop-k-preserved c =
    let d = c.args.docket.now in
    let r = c.index-rows-k.result in
    let at = rows_before c.args.rows.now c.loop-k.k c.loop-k-test.true in
    rw (rows_to c.args.rows.now c.loop-k.k r c.loop-k-test.true c.index-rows-k.is)
    (has_more d (take c.loop-k.k (map fields_of c.args.rows.now)) (fields_of r) (both_of c.loop-k.key) (both_of c.test_row.new.key) c.loop-k.names c.add.new.self c.loop-k.invariant
    (rw c.requires.docket at c.in-Ok.ensures.row) (rw (at, ← c.requires.docket) c.in-Ok.ensures.faultless) (rw c.requires.docket at c.in_ok-add.ensures))

pub returns-in-Err-clause-fault : goal.returns-in-Err-clause-fault
returns-in-Err-clause-fault c =
    let d = c.args.docket.now in
    let h = rw c.requires.docket at c.in-Err.ensures.fault in
    elim h [
      | inl memory ↦ inl memory
      | inr at ↦ inr (has_fault d c.args.rows.now c.loop-k.k c.index-rows-k.result (both_of c.loop-k.key) c.loop-k.names c.in-Err.fault c.loop-k-test.true c.index-rows-k.is c.loop-k.invariant at)
    ]

pub returns-clause-names : goal.returns-clause-names
returns-clause-names c =
    (has_all c.args.docket.now (map fields_of c.args.rows.now) c.loop-k.k (both_of c.loop-k.key) c.loop-k.names (omega (arith, c.loop-k-test.false, length-map c.args.rows.now fields_of)) c.loop-k.invariant).named

pub returns-clause-faultless : goal.returns-clause-faultless
returns-clause-faultless c =
    (has_all c.args.docket.now (map fields_of c.args.rows.now) c.loop-k.k (both_of c.loop-k.key) c.loop-k.names (omega (arith, c.loop-k-test.false, length-map c.args.rows.now fields_of)) c.loop-k.invariant).clear
