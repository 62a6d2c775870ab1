-- A placement is stable exactly if its report is empty.
use Rattle.std.proofs.Common.{◌≡◌, ℕ, suc, ◌+◌, ◌<◌, inl, inr, Bool, true, false, cond, List, [], ◌∷◌, length, arith, refl, subst}
use Rattle.std.specs.Prelude.{Option, ◌↔◌, IsTrue}
use Rattle.std.specs.List.{Contains}
use Rattle.std.proofs.lemmas.Bool.{cases_lt}
use Rattle.std.proofs.lemmas.List.Sums.{sum_by-cons}
use Rattle.match_model.specs.Ranking.{place}
use Rattle.match_model.specs.Instance.{Instance, Acceptable, quota, list_of_programme}
use Rattle.match_model.specs.Placement.{IsMemberOf, holds, member_count}
use Rattle.match_model.proofs.Instances.{acceptable_programme}
use Rattle.settle_law.specs.Stable.{IsStable}
use Rattle.settle_law.proofs.Placements.{same_from_holds}
use Rattle.match_audit.specs.declared.report.AuditReport.{AuditReport}
use Rattle.match_audit.specs.Report.{Reports, TellsStability}

nil_from_none : {X : Type 0} (xs : List X) → ((x : X) → Contains xs x → ⊥) → xs ≡ []
nil_from_none [] none = refl
nil_from_none (x ∷ xs) none = absurd (none x (0, omega arith, refl))

none_from_nil : {X : Type 0} (xs : List X) → xs ≡ [] → (x : X) → Contains xs x → ⊥
none_from_nil [] e x c = omega (arith, c.1)
none_from_nil (y ∷ ys) e x c = cc

-- a programme with more than 0 members has some member
pub member_from_count : (m : List (Option ℕ)) (p : ℕ) → 0 < member_count m p → (r : ℕ) × IsMemberOf m r p
member_from_count [] p h = absurd (omega arith)
member_from_count (o ∷ ms) p h = go (holds p o) refl (sum_by-cons (λ z. cond (holds p z) 1 0) o ms) (member_from_count ms p)
  where
    go : (b : Bool) → holds p o ≡ b → member_count (o ∷ ms) p ≡ cond (holds p o) 1 0 + member_count ms p →
        (0 < member_count ms p → (r : ℕ) × IsMemberOf ms r p) → (r : ℕ) × IsMemberOf (o ∷ ms) r p
    go true e s rest = (0, same_from_holds p o e)
    go false e s rest =
        let k : 0 < member_count ms p = omega (arith, subst (λ b. member_count (o ∷ ms) p ≡ cond b 1 0 + member_count ms p) e s) in
        let found = rest k in (suc found.0, found.1)

pub record FindsNothing (report : AuditReport) : Type 0 where
  pub unacceptable : report.unacceptable.items ≡ []
  pub over : report.over.items ≡ []
  pub blocking : report.blocking.items ≡ []

pub stable_from_nothing : (inst : Instance) (m : List (Option ℕ)) (report : AuditReport) → Reports inst m report →
    FindsNothing report → IsStable inst m
stable_from_nothing inst m report h nothing = record {
  is_assignment = record {
    one_place_each = h.one_place_each;
    pairs_acceptable = acceptable;
    quotas_kept = λ p. elim (cases_lt (quota inst p) (member_count m p)) [
      | inr c ↦ c
      | inl c ↦
          let s = member_from_count m p (omega arith) in
          let member = acceptable_programme inst h.is_instance s.0 p (acceptable s.0 p s.1) in
          absurd (none_from_nil report.over.items nothing.over (p, member_count m p) ((h.over.each p (member_count m p)).1 (member, refl, c)))
    ];
  };
  nothing_blocks = λ r p b. none_from_nil report.blocking.items nothing.blocking (r, p) ((h.blocking.each r p).1 b);
}
  where
    acceptable : (r p : ℕ) → IsMemberOf m r p → Acceptable inst r p
    acceptable r p e = elim (cases_lt (place (list_of_programme inst p) r) (length (list_of_programme inst p))) [
      | inl c ↦ c
      | inr c ↦ absurd (none_from_nil report.unacceptable.items nothing.unacceptable (r, p) ((h.unacceptable.each r p).1 (e, λ l. omega arith)))
    ]

pub nothing_from_stable : (inst : Instance) (m : List (Option ℕ)) (report : AuditReport) → Reports inst m report →
    IsStable inst m → FindsNothing report
nothing_from_stable inst m report h stable = record {
  unacceptable = nil_from_none report.unacceptable.items (λ (x : ℕ × ℕ) c. let u = (h.unacceptable.each x.0 x.1).0 c in u.1 (stable.is_assignment.pairs_acceptable x.0 x.1 u.0));
  over = nil_from_none report.over.items (λ (x : ℕ × ℕ) c.
      let u = (h.over.each x.0 x.1).0 c in
      let k = stable.is_assignment.quotas_kept x.0 in
      let e = u.1 in let l = u.2 in omega arith);
  blocking = nil_from_none report.blocking.items (λ (x : ℕ × ℕ) c. stable.nothing_blocks x.0 x.1 ((h.blocking.each x.0 x.1).0 c));
}

pub tells_stability : (report : AuditReport) (b : Bool) →
    (IsTrue b ↔ ((report.unacceptable.items ≡ []) × (report.over.items ≡ []) × (report.blocking.items ≡ []))) → TellsStability report b
tells_stability report b found inst m h = (
  λ t. let e = found.0 t in stable_from_nothing inst m report h (record { unacceptable = e.0; over = e.1; blocking = e.2 }),
  λ s. let e = nothing_from_stable inst m report h s in found.1 (e.unacceptable, e.over, e.blocking),
)
