use Rattle.std.proofs.Common.{◌≡◌, ℕ, List, [], Option, Some, ap, sym, ◌∙◌, subst}
use Rattle.std.specs.Prelude.{unwrap_or}
use Rattle.match_model.specs.Instance.{Instance}
use Rattle.match_model.specs.Written.{AreWritten, Written}
use Rattle.match_reasons.specs.Reason.{AreTaken}
use Rattle.reasons_text.proofs.AnswerFacts.{made_of_lists}
use Rattle.reasons_text.proofs.case.Case.of_docket.Goals as goal

pub new-listed_instance-requires : goal.new-listed_instance-requires
new-listed_instance-requires c =
    subst (λ (i : Instance). AreWritten i c.args.written_lists) (sym c.instance-2.ensures.instance) (made_of_lists _ _ _ _ c.requires.read)

pub invariant_of-result : goal.invariant_of-result
invariant_of-result c =
    let has : Some c.in-Some.sheet.now ≡ c.args.docket.sheet = c.in-Some.ensures.sheet in
    let sheet : unwrap_or c.args.docket.sheet [] ≡ c.in-Some.sheet.now = ap (λ (o : Option (List (Option ℕ))). unwrap_or o []) (sym has) in
    record {
      has_sheet = sym has ∙ ap Some (sym sheet);
      limits = c.requires.limits;
      read = c.requires.read;
      taken = subst (λ (m : List (Option ℕ)). AreTaken c.args.written_lists m c.in_ok-taken_places.taken_places.items) (sym sheet)
          (subst (λ (w : Written). AreTaken w c.in-Some.sheet.now c.in_ok-taken_places.taken_places.items) c.new-listed_instance.ensures.written c.in_ok-taken_places.ensures.taken);
    }
