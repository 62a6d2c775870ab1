-- Facts about a legal list of events at rest, which also hold after its close.
use Rattle.std.proofs.Common.{◌≡◌, ℕ, ◌+◌, ◌<◌, ◌≤◌, true, ◌⊎◌, inl, inr, List, [], ◌∷◌, ◌++◌, length, drop, None, refl, ap, sym, ◌∙◌, subst, arith, length-drop, sum_by}
use Rattle.std.proofs.lemmas.Bool.{cases_lt}
use Rattle.std.proofs.lemmas.List.{get_or_past}
use Rattle.std.proofs.lemmas.List.FromFn.{length-map-range_with_len, get_or-map-range_with_len}
use Rattle.match_model.specs.Instance.{Instance, IsInstance, IsResident, list_of_resident}
use Rattle.match_model.specs.Placement.{programme_of}
use Rattle.exchange_core.specs.declared.event.Event.{Event}
use Rattle.exchange_core.specs.declared.event.Event.TheVariants.{Close}
use Rattle.exchange_core.specs.declared.event.Capacity.{Capacity}
use Rattle.exchange_core.specs.Mail.{offers_of, offers_to, takes, answers_of, answers_to, hears}
use Rattle.exchange_core.specs.Calls.{best_of, calls, rejections, due, out, last_hold}
use Rattle.exchange_core.specs.Legal.{is_closed, IsAtRest, IsLegal}
use Rattle.exchange_core.specs.Left.{held_by, given}
use Rattle.match_model.proofs.Prefixes.{item_at, prefix_whole}
use Rattle.exchange_core.proofs.Mail.{offers_of_same, offers_to_same, takes_same, answers_to_same, hears_same}
use Rattle.exchange_core.proofs.Calls.{last_hold-calls}
use Rattle.exchange_core.proofs.Legal.{closed_parts}
use Rattle.exchange_core.proofs.Members.{offers_to_members, answers_to_members}
use Rattle.exchange_core.proofs.Dues.{due_same, out_same}
use Rattle.exchange_core.proofs.InOrder.{takes_in_order, answers_in_order, hears_in_order}
use Rattle.exchange_core.proofs.Rejections.{rejections_of, rejections_match, out_and_rejections}

pub rest_after_close : (inst : Instance) (j : List Event) → IsAtRest inst j → IsAtRest inst (j ++ Close ∷ [])
rest_after_close inst j rest = record {
  all_taken = λ r m. takes_same r j Close refl ∙ rest.all_taken r m ∙ sym (offers_to_same r j Close refl);
  nothing_due = λ r m. due_same inst r j Close refl refl ∙ rest.nothing_due r m;
  all_heard = λ p m. hears_same p j Close refl ∙ rest.all_heard p m ∙ sym (answers_to_same p j Close refl);
  no_wish = λ p m. rw (out_same p j Close refl refl, offers_of_same p j Close refl) (rest.no_wish p m);
}

-- a closed legal list of events is still at rest
pub closed_is_at_rest : (inst : Instance) (cap : Capacity) (j : List Event) → IsLegal inst cap j → is_closed j ≡ true → IsAtRest inst j
closed_is_at_rest inst cap j legal closed = let c = closed_parts inst cap j legal closed in subst (λ (t : List Event). IsAtRest inst t) (sym c.1) (rest_after_close inst c.0 c.3)

-- ---- the placement that a list of events leads to

pub length-given : (inst : Instance) (j : List Event) → length (given inst j) ≡ length inst.resident_lists
unfolding given
length-given inst j = length-map-range_with_len (λ r. held_by r j) 0 (length inst.resident_lists)

pub given_at : (inst : Instance) (j : List Event) (r : ℕ) → IsResident inst r → programme_of (given inst j) r ≡ held_by r j
unfolding given
given_at inst j r l = get_or-map-range_with_len (λ s. held_by s j) 0 (length inst.resident_lists) r r None l (omega arith)

pub given_past : (inst : Instance) (j : List Event) (r : ℕ) → (IsResident inst r → ⊥) → programme_of (given inst j) r ≡ None
given_past inst j r n = get_or_past (given inst j) r None (let e = length-given inst j in step e (cases_lt r (length inst.resident_lists)))
  where
    step : length (given inst j) ≡ length inst.resident_lists → (r < length inst.resident_lists) ⊎ (length inst.resident_lists ≤ r) → length (given inst j) ≤ r
    step e (inl l) = absurd (n l)
    step e (inr l) = omega (arith, e, l)

-- ---- what is true at rest

module _ (inst : Instance) (cap : Capacity) (j : List Event) (legal : IsLegal inst cap j) (rest : IsAtRest inst j) where
  -- at rest a resident has taken every offer made to the resident; a number that is no resident's got no offer
  pub rest_taken : (r : ℕ) → takes r j ≡ offers_to r j
  rest_taken r = step (cases_lt r (length inst.resident_lists)) (cases_lt 0 (length (offers_to r j)))
    where
      step : (r < length inst.resident_lists) ⊎ (length inst.resident_lists ≤ r) → (0 < length (offers_to r j)) ⊎ (length (offers_to r j) ≤ 0) → takes r j ≡ offers_to r j
      step (inl m) n = rest.all_taken r m
      step (inr m) (inl n) = let x = item_at (offers_to r j) 0 n in let k = offers_to_members inst cap j legal r 0 x.0 x.1 in absurd (omega (arith, k.1, m))
      step (inr m) (inr n) = prefix_whole (takes r j) (offers_to r j) (takes_in_order inst cap j legal r) (omega arith)

  pub rest_heard : (p : ℕ) → hears p j ≡ answers_to p j
  rest_heard p = step (cases_lt p (length inst.quotas)) (cases_lt 0 (length (answers_to p j)))
    where
      step : (p < length inst.quotas) ⊎ (length inst.quotas ≤ p) → (0 < length (answers_to p j)) ⊎ (length (answers_to p j) ≤ 0) → hears p j ≡ answers_to p j
      step (inl m) n = rest.all_heard p m
      step (inr m) (inl n) = let x = item_at (answers_to p j) 0 n in let k = answers_to_members inst cap j legal p 0 x.0 x.1 in absurd (omega (arith, k.0, m))
      step (inr m) (inr n) = prefix_whole (hears p j) (answers_to p j) (hears_in_order inst cap j legal p) (omega arith)

  pub rest_answered : (r : ℕ) → IsResident inst r → answers_of r j ≡ calls (list_of_resident inst r) (offers_to r j)
  unfolding due
  rest_answered r m =
      let none = rest.nothing_due r m in
      let l = length-drop (length (answers_of r j)) (calls (list_of_resident inst r) (takes r j)) in
      let z : length (drop (length (answers_of r j)) (calls (list_of_resident inst r) (takes r j))) ≡ 0 = ap length none in
      prefix_whole (answers_of r j) (calls (list_of_resident inst r) (takes r j)) (answers_in_order inst cap j legal r) (omega (arith, l, z))
      ∙ ap (calls (list_of_resident inst r)) (rest_taken r)

  -- at rest each resident holds the best offer made to the resident
  pub rest_held : (r : ℕ) → IsResident inst r → held_by r j ≡ best_of (list_of_resident inst r) (offers_to r j)
  unfolding held_by
  rest_held r m = ap last_hold (rest_answered r m) ∙ last_hold-calls (list_of_resident inst r) (offers_to r j)

  -- at rest a programme's offers are its offers out plus the rejections sent to it
  pub rest_out : IsInstance inst → (p : ℕ) → out p j + sum_by (λ r. rejections_of p (answers_of r j)) (offers_of p j) ≡ length (offers_of p j)
  rest_out is_instance p =
      let e = out_and_rejections inst cap is_instance j legal p in
      let h : rejections (hears p j) ≡ sum_by (λ r. rejections_of p (answers_of r j)) (offers_of p j) = ap rejections (rest_heard p) ∙ rejections_match inst cap is_instance j legal p in
      ap (λ t. out p j + t) (sym h) ∙ e
