-- Every number on the lists of an instance is a member's number.
use Rattle.std.proofs.Common.{ℕ, ◌≤◌, inl, inr, List, [], length, arith, subst}
use Rattle.std.proofs.lemmas.Bool.{cases_lt}
use Rattle.std.proofs.lemmas.List.{get_or_past}
use Rattle.match_model.specs.Ranking.{IsListed}
use Rattle.match_model.specs.Instance.{Instance, IsInstance, IsProgramme, IsResident, Acceptable, list_of_resident}

-- if the list of r has an item, r is a resident
pub ranking_resident : (inst : Instance) (r p : ℕ) → IsListed (list_of_resident inst r) p → IsResident inst r
ranking_resident inst r p l = elim (cases_lt r (length inst.resident_lists)) [
  | inl c ↦ c
  | inr c ↦
      let nobody : IsListed [] p = subst (λ (xs : List ℕ). IsListed xs p) (get_or_past inst.resident_lists r [] c) l in
      absurd (omega arith)
]

-- both numbers of an acceptable pair are members
pub acceptable_resident : (inst : Instance) → IsInstance inst → (r p : ℕ) → Acceptable inst r p → IsResident inst r
acceptable_resident inst is r p a = ranking_resident inst r p ((is.both_rank p r).0 a)

pub acceptable_programme : (inst : Instance) → IsInstance inst → (r p : ℕ) → Acceptable inst r p → IsProgramme inst p
acceptable_programme inst is r p a = elim (cases_lt p (length inst.quotas)) [
  | inl c ↦ c
  | inr c ↦
      let past : length inst.programme_lists ≤ p = omega (arith, is.one_list_each) in
      let nobody : IsListed [] r = subst (λ (xs : List ℕ). IsListed xs r) (get_or_past inst.programme_lists p [] past) a in
      absurd (omega arith)
]
