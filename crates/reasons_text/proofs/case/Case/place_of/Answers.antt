use Rattle.std.proofs.Common.{ℕ, List, length, Option, ap, arith}
use Rattle.reasons_text.specs.Answers.{CaseParts}
use Rattle.reasons_text.proofs.AnswerFacts.{places_of}
use Rattle.reasons_text.proofs.case.Case.place_of.Goals as goal

pub get-requires : goal.get-requires
get-requires c =
    let places = places_of _ c.self.invariant c.instance-inst.ensures.whole in
    let sheet = ap (λ (k : CaseParts). length k.sheet) c.self.view_is in
    let many = ap (λ (k : CaseParts). length k.docket.instance.resident_lists) c.self.view_is in
    let own = ap (λ (m : List (Option ℕ)). length m) c.sheet.ensures in
    omega (arith, places, sheet, many, own, c.requires)
