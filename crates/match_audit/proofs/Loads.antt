-- How the programmes' loads change if a placement gets one more entry.
use Rattle.std.proofs.Common.{◌≡◌, ℕ, ◌+◌, ◌<◌, ◌≤◌, ◌⊎◌, inl, inr, Bool, true, false, cond, max, List, [], ◌∷◌, ◌++◌, length, slice_get, get_or, set, take, arith, refl, sym, ap, ◌∙◌, subst}
use Rattle.std.specs.Prelude.{Option, Some, None, ◌↔◌}
use Rattle.std.proofs.lemmas.Bool.{cases_lt, cases_eq, ne_eqb}
use Rattle.std.proofs.lemmas.List.{length_push, length-set, get_or_append_left, get_or_push, get_or-set_same, get_or-set_other, length-take-le}
use Rattle.std.proofs.lemmas.List.Sums.{sum_by_push, count_by-le-length}
use Rattle.std.proofs.lemmas.Option.{get_or_from_slice_get, slice_get-get_or, slice_get_within, same_Some}
use Rattle.match_model.specs.Ranking.{place}
use Rattle.match_model.specs.Instance.{Instance, IsProgramme, quota, list_of_programme}
use Rattle.match_model.specs.Placement.{IsMemberOf, holds, member_count}
use Rattle.settle_law.specs.Stable.{HasRoomFor}
use Rattle.settle_law.proofs.Placements.{member_within, holds_true}
use Rattle.match_audit.specs.declared.load.Load.{Load}
use Rattle.match_audit.specs.Loads.{IsLoadOf, AreLoads}

-- a member of programme p after one more entry of the placement was a member before, or is the
-- resident of this entry
pub member_push : (m : List (Option ℕ)) (x : Option ℕ) (s p : ℕ) → IsMemberOf (m ++ x ∷ []) s p →
    IsMemberOf m s p ⊎ ((s ≡ length m) × (x ≡ Some p))
member_push m x s p h = elim (cases_lt s (length m)) [
  | inl c ↦ inl (sym (get_or_append_left m (x ∷ []) None s c) ∙ h)
  | inr c ↦
      let w : s < length m + 1 = omega (arith, member_within (m ++ x ∷ []) s p h, length_push m x) in
      let e : s ≡ length m = omega arith in
      inr (e, sym (get_or_push m x None s (sym e)) ∙ h)
]

pub member_push_before : (m : List (Option ℕ)) (x : Option ℕ) (s p : ℕ) → IsMemberOf m s p → IsMemberOf (m ++ x ∷ []) s p
member_push_before m x s p h = get_or_append_left m (x ∷ []) None s (member_within m s p h) ∙ h

pub member_push_last : (m : List (Option ℕ)) (x : Option ℕ) (p : ℕ) → x ≡ Some p → IsMemberOf (m ++ x ∷ []) (length m) p
member_push_last m x p e = get_or_push m x None (length m) refl ∙ e

member_count_push : (m : List (Option ℕ)) (x : Option ℕ) (p : ℕ) →
    member_count (m ++ x ∷ []) p ≡ member_count m p + cond (holds p x) 1 0
member_count_push m x p = sum_by_push (λ z. cond (holds p z) 1 0) m x

holds_false : (p : ℕ) (x : Option ℕ) → (x ≡ Some p → ⊥) → holds p x ≡ false
holds_false p None n = refl
holds_false p (Some q) n = ne_eqb q p (λ e. n (ap Some e))

-- an entry that does not name programme p leaves the load of p as it is
IsLoadOf-other : (inst : Instance) (m : List (Option ℕ)) (x : Option ℕ) (p : ℕ) (load : Load) → IsLoadOf inst m p load →
    (x ≡ Some p → ⊥) → IsLoadOf inst (m ++ x ∷ []) p load
IsLoadOf-other inst m x p load h n = record {
  members = h.members ∙ sym (member_count_push m x p ∙ still (holds p x) (holds_false p x n));
  worst_rank = λ k. (
    λ l. let c = (h.worst_rank k).0 l in (c.0, member_push_before m x c.0 p c.1, c.2),
    λ (s, e, l). elim (member_push m x s p e) [
      | inl d ↦ (h.worst_rank k).1 (s, d, l)
      | inr d ↦ absurd (n d.1)
    ],
  );
}
  where
    still : (b : Bool) → b ≡ false → member_count m p + cond b 1 0 ≡ member_count m p
    still b e = rw e (omega arith)

-- the load with one member more, who stands at this place of the programme's list
abbrev pub loaded : Load → ℕ → Load
loaded load at = record { members = load.members + 1; worst_rank = max load.worst_rank at }

-- an entry that names programme p adds a member to the load of p
IsLoadOf-more : (inst : Instance) (m : List (Option ℕ)) (p : ℕ) (load : Load) → IsLoadOf inst m p load →
    IsLoadOf inst (m ++ Some p ∷ []) p (loaded load (place (list_of_programme inst p) (length m)))
IsLoadOf-more inst m p load h = record {
  members = sym (member_count_push m (Some p) p ∙ one (holds p (Some p)) (holds_true p (Some p) refl));
  worst_rank = λ k. (
    λ l. elim (cases_lt k load.worst_rank) [
      | inl d ↦ let c = (h.worst_rank k).0 d in (c.0, member_push_before m (Some p) c.0 p c.1, c.2)
      | inr d ↦ (length m, member_push_last m (Some p) p refl, omega arith)
    ],
    λ (s, e, l). elim (member_push m (Some p) s p e) [
      | inl d ↦ let c = (h.worst_rank k).1 (s, d, l) in omega arith
      | inr d ↦ let c : k < place (list_of_programme inst p) (length m) = subst (λ z. k < place (list_of_programme inst p) z) d.0 l in omega arith
    ],
  );
}
  where
    one : (b : Bool) → b ≡ true → member_count m p + cond b 1 0 ≡ load.members + 1
    one b e = rw e (let i = h.members in omega arith)

pub AreLoads-other : (inst : Instance) (m : List (Option ℕ)) (x : Option ℕ) (loads : List Load) → AreLoads inst m loads →
    ((p : ℕ) → IsProgramme inst p → x ≡ Some p → ⊥) → AreLoads inst (m ++ x ∷ []) loads
AreLoads-other inst m x loads h n = record {
  one_each = h.one_each;
  each = λ p load at. IsLoadOf-other inst m x p load (h.each p load at)
      (n p (let w = slice_get_within loads p load at in let e = h.one_each in omega arith));
}

pub AreLoads-more : (inst : Instance) (m : List (Option ℕ)) (p : ℕ) (loads : List Load) (load : Load) → AreLoads inst m loads →
    slice_get loads p ≡ Some load →
    AreLoads inst (m ++ Some p ∷ []) (set loads p (loaded load (place (list_of_programme inst p) (length m))))
AreLoads-more inst m p loads load h at = record {
  one_each = length-set loads p more ∙ h.one_each;
  each = λ q l here. elim (cases_eq q p) [
    | inl e ↦
        let same : more ≡ l = sym (get_or-set_same loads p more l within) ∙ ap (λ z. get_or (set loads p more) z l) (sym e) ∙ get_or_from_slice_get (set loads p more) q l l here in
        subst (λ z. IsLoadOf inst (m ++ Some p ∷ []) z l) (sym e) (subst (λ z. IsLoadOf inst (m ++ Some p ∷ []) p z) same (IsLoadOf-more inst m p load (h.each p load at)))
    | inr d ↦
        let w : q < length loads = omega (arith, slice_get_within (set loads p more) q l here, length-set loads p more) in
        let old : slice_get loads q ≡ Some l =
        slice_get-get_or loads q l w ∙ ap Some (sym (get_or-set_other loads p q more l d) ∙ get_or_from_slice_get (set loads p more) q l l here) in
        IsLoadOf-other inst m (Some p) q l (h.each q l old) (λ e. d (sym (same_Some p q e)))
  ];
}
  where
    more : Load
    more = loaded load (place (list_of_programme inst p) (length m))

    within : p < length loads
    within = slice_get_within loads p load at

-- programme p has room for resident r exactly if its load shows a free place or a member behind r
pub room_from_load : (inst : Instance) (m : List (Option ℕ)) (p r : ℕ) (load : Load) → IsLoadOf inst m p load →
    ((load.members < quota inst p) ⊎ (place (list_of_programme inst p) r < load.worst_rank)) ↔ HasRoomFor inst m p r
room_from_load inst m p r load h = (
  λ (c : (load.members < quota inst p) ⊎ (place (list_of_programme inst p) r < load.worst_rank)). elim c [
    | inl d ↦ inl (let e = h.members in omega arith)
    | inr d ↦ inr ((h.worst_rank (place (list_of_programme inst p) r)).0 d)
  ],
  λ (c : HasRoomFor inst m p r). elim c [
    | inl d ↦ inl (let e = h.members in omega arith)
    | inr d ↦ inr ((h.worst_rank (place (list_of_programme inst p) r)).1 d)
  ],
)

-- the load that is stored for programme p says whether p has room for resident r
pub room_at : (inst : Instance) (m : List (Option ℕ)) (p r i : ℕ) (loads : List Load) (load : Load) → AreLoads inst m loads → IsProgramme inst p → i ≡ p →
    (((get_or loads i load).members < quota inst p) ⊎ (place (list_of_programme inst p) r < (get_or loads i load).worst_rank)) ↔ HasRoomFor inst m p r
room_at inst m p r i loads load h member e =
    let within : i < length loads = (let l = h.one_each in omega arith) in
    room_from_load inst m p r (get_or loads i load) (h.each p (get_or loads i load) (ap (slice_get loads) (sym e) ∙ slice_get-get_or loads i load within))

-- a programme has at most n members among the first n entries of a placement
pub member_count-take : (m : List (Option ℕ)) (n p : ℕ) → n ≤ length m → member_count (take n m) p ≤ n
member_count-take m n p l = omega (arith, count_by-le-length (holds p) (take n m), length-take-le n m l)
