use Rattle.std.proofs.Common.{arith}
use Rattle.reasons_text.specs.Naming.{means, naming_of, names_in}
use Rattle.reasons_text.proofs.MeantFacts.{meant_none, meant_within}
use Rattle.reasons_text.proofs.names.Names.meant.Goals as goal

pub loop-number-init : goal.loop-number-init
loop-number-init c = meant_none (means (naming_of c.args.self.now) c.args.side c.args.text.now)

pub returns : goal.returns
returns c =
    let past = c.loop-number-test.false in
    let members = c.named_count-number-end.ensures.members in
    let rows = c.named_count-number-end.ensures.rows in
    record {
      named = c.loop-number.number;
      all = λ k met. meant_within (naming_of c.args.self.now).docket c.args.side (names_in (naming_of c.args.self.now) c.args.side) c.args.text.now c.loop-number.number k (omega (arith, past, members)) (omega (arith, past, rows)) met;
      is = c.loop-number.invariant;
    }
