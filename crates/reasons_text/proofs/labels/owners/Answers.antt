use Rattle.std.proofs.Common.{arith}
use Rattle.std.specs.Prelude.{string_bytes}
use Rattle.std.proofs.lemmas.List.{length-map}
use Rattle.reasons_text.specs.Naming.{is_meant, side_of}
use Rattle.reasons_text.specs.Numbers.{owner_in}
use Rattle.reasons_text.proofs.LabelFacts.{owner_more}
use Rattle.reasons_text.proofs.MeantFacts.{meant_none, meant_within}
use Rattle.reasons_text.proofs.labels.owners.Goals as goal

pub loop-number-init : goal.loop-number-init
loop-number-init c text = rw c.with_hasher-owners.ensures.empty (meant_none (is_meant c.args.docket.now c.args.side (side_of c.args.side_key.now) text))

pub loop-number-preserved : goal.loop-number-preserved
loop-number-preserved c text =
    rw (c.in_ok-note_member_texts.ensures text)
    (owner_more (is_meant c.args.docket.now c.args.side (side_of c.args.side_key.now) text) c.loop-number.number (owner_in c.loop-number.owners text) (c.loop-number.invariant text))

pub returns : goal.returns
returns c text =
    let past = c.loop-number-test.false in
    let size = length-map c.args.labels.now string_bytes in
    let members = c.requires.members in
    let rows = c.requires.rows in
    record {
      named = c.loop-number.number;
      all = λ k met. meant_within c.args.docket.now c.args.side (side_of c.args.side_key.now) text c.loop-number.number k (omega (arith, past, size, members)) (omega (arith, past, size, rows)) met;
      is = c.loop-number.invariant text;
    }
