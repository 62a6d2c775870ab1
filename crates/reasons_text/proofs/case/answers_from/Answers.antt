use Rattle.std.proofs.Common.{◌≡◌, ◌<◌, ◌+◌, ℕ, List, [], ◌∷◌, ◌++◌, length, take, Some, ap, sym, ◌∙◌, subst, arith}
use Rattle.std.specs.Prelude.{slice_get}
use Rattle.std.proofs.lemmas.List.{length_push, take_all, take_more}
use Rattle.std.proofs.lemmas.Option.{get_or_from_slice_get}
use Rattle.match_model.specs.Instance.{list_at}
use Rattle.match_reasons.specs.declared.reason.Why.{Why}
use Rattle.reasons_text.specs.Answers.{AreFirst, CaseParts, case_of}
use Rattle.reasons_text.proofs.AnswerFacts.{AreFirst-push, below_at}
use Rattle.reasons_text.proofs.case.answers_from.Goals as goal

pub reason_from-requires-clause-programme : goal.reason_from-requires-clause-programme
reason_from-requires-clause-programme c =
    let mine : List ℕ = list_at c.args.written_lists.now.resident_lists c.args.resident in
    let at : slice_get mine c.loop-choice_index.choice_index ≡ Some c.in-Some.programme = sym c.choice.ensures ∙ c.in-Some.is in
    let within : c.loop-choice_index.choice_index < length mine = omega arith in
    let many = c.instance-inst.ensures.whole.residents in
    let members = c.requires.case.read.members c.args.resident (let asked = c.requires.resident in omega (arith, many, asked)) in
    subst (λ (n : ℕ). c.in-Some.programme < n) c.instance-inst.ensures.whole.programmes (below_at _ mine c.loop-choice_index.choice_index c.in-Some.programme within members at)

pub loop-choice_index-preserved : goal.loop-choice_index-preserved
loop-choice_index-preserved c =
    let mine : List ℕ = list_at c.args.written_lists.now.resident_lists c.args.resident in
    let case : CaseParts = case_of c.args.docket.now c.args.sheet.now c.args.written_lists.now c.args.taken_places.now in
    let p : ℕ = c.in-Some.programme in
    let place : ℕ = c.loop-choice_index.choice_index in
    let reasons : List Why = c.loop-choice_index.reasons.items in
    let at : slice_get mine place ≡ Some p = sym c.choice.ensures ∙ c.in-Some.is in
    let within : place < length mine = omega arith in
    record {
      listed = c.in_ok-push.ensures.items ∙ ap (λ (xs : List ℕ). xs ++ p ∷ []) c.loop-choice_index.invariant.listed
          ∙ ap (λ (x : ℕ). take place mine ++ x ∷ []) (sym (get_or_from_slice_get mine place p 0 at)) ∙ sym (take_more mine place 0 within);
      each = ap (λ (ws : List Why). length ws) c.in_ok-push-2.ensures.items ∙ length_push reasons c.reason_from.result ∙ ap (λ k. k + 1) c.loop-choice_index.invariant.each;
      first = subst (AreFirst case c.args.resident mine) (sym c.in_ok-push-2.ensures.items)
          (AreFirst-push case c.args.resident mine reasons c.reason_from.result p place c.loop-choice_index.invariant.each at c.loop-choice_index.invariant.first c.reason_from.ensures);
    }

pub returns-clause-first : goal.returns-clause-first
returns-clause-first c =
    let mine : List ℕ = list_at c.args.written_lists.now.resident_lists c.args.resident in
    let case : CaseParts = case_of c.args.docket.now c.args.sheet.now c.args.written_lists.now c.args.taken_places.now in
    let listed : c.loop-choice_index.programmes.items ≡ mine = c.loop-choice_index.invariant.listed ∙ take_all c.loop-choice_index.choice_index mine (omega arith) in
    let many = ap (λ (xs : List ℕ). length xs) listed in
    record {
      listed = listed;
      each = let each = c.loop-choice_index.invariant.each in omega (arith, many, each);
      first = subst (λ (xs : List ℕ). AreFirst case c.args.resident xs c.loop-choice_index.reasons.items) (sym listed) c.loop-choice_index.invariant.first;
    }
