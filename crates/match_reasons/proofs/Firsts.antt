-- Only one answer can be the first true answer, and the code returns this answer.
use Rattle.std.proofs.Common.{◌≡◌, ℕ, ◌<◌, ◌≤◌, inl, inr, List, arith, refl, sym, ap, ◌∙◌, subst}
use Rattle.std.specs.Prelude.{Option, Some, None}
use Rattle.std.proofs.lemmas.Bool.{cases_lt}
use Rattle.std.proofs.lemmas.Option.{same_Some}
use Rattle.match_model.specs.Ranking.{place, IsListed, IsBefore}
use Rattle.match_model.specs.Instance.{Instance, IsInstance, IsResident, IsProgramme, Acceptable, list_of_programme, list_of_resident, quota, rank}
use Rattle.match_model.specs.Placement.{programme_of, IsMemberOf}
use Rattle.match_model.proofs.Listed.{same_from_place}
use Rattle.settle_law.proofs.Places.{IsListed-nil}
use Rattle.settle_law.specs.Stable.{Prefers, IsStable, HasRoomFor}
use Rattle.match_reasons.proofs.Ranks.{ranked, place_unranked}
use Rattle.match_reasons.proofs.Kept.{AreListsOf, resident_before, programme_before, written_parts}
use Rattle.match_reasons.specs.Reason.{HasWithdrawn, HasBetter, IsLastPlace, IsTaken, Holds, turn, IsFirst, Wants, Asks, TellsFull, GivesProgrammes, NamesOwn, NamesProgramme, HasRoomAt, StandsPast}
use Rattle.match_reasons.specs.declared.taken.Taken.{Taken}
use Rattle.match_reasons.specs.declared.reason.Why.{Why}
use Rattle.match_reasons.specs.declared.reason.Why.TheVariants.{Withdrawn, NotListed, NotRanked, Matched, PrefersOwn, Full, Blocking}

-- a programme has only one last place among its members
same_last : (theirs : List ℕ) (m : List (Option ℕ)) (p : ℕ) (a b : Option ℕ) → IsLastPlace theirs m p a → IsLastPlace theirs m p b → a ≡ b
same_last theirs m p None None h k = refl
same_last theirs m p None (Some b) h k = absurd (h k.0.0 k.0.1)
same_last theirs m p (Some a) None h k = absurd (k h.0.0 h.0.1)
same_last theirs m p (Some a) (Some b) h k =
    let l = h.1 k.0.0 k.0.1 in let g = k.1 h.0.0 h.0.1 in let e = h.0.2 in let f = k.0.2 in
    ap Some (omega arith)

-- two answers that are both true of r and p, and are tried at the same turn, are equal
same_holding : (inst : Instance) (mine theirs : List ℕ) (m : List (Option ℕ)) (r p : ℕ) (a b : Why) →
    Holds inst mine theirs m r p a → Holds inst mine theirs m r p b → turn a ≡ turn b → a ≡ b
same_holding inst mine theirs m r p Withdrawn Withdrawn h k e = refl
same_holding inst mine theirs m r p NotListed NotListed h k e = refl
same_holding inst mine theirs m r p NotRanked NotRanked h k e = refl
same_holding inst mine theirs m r p Matched Matched h k e = refl
same_holding inst mine theirs m r p (PrefersOwn o i j) (PrefersOwn o' i' j') h k e =
    let f : o ≡ o' = same_Some o o' (sym h.has_own ∙ k.has_own) in
    let x : i ≡ i' = same_Some i i' (sym h.own_ranked ∙ ap (rank mine) f ∙ k.own_ranked) in
    let y : j ≡ j' = same_Some j j' (sym h.ranked ∙ k.ranked) in cc
same_holding inst mine theirs m r p (Full i l q) (Full i' l' q') h k e =
    let x : i ≡ i' = same_Some i i' (sym h.ranked ∙ k.ranked) in
    let y : l ≡ l' = same_last theirs m p l l' h.last k.last in
    let z : q ≡ q' = sym h.has_quota ∙ k.has_quota in cc
same_holding inst mine theirs m r p Blocking Blocking h k e = refl
same_holding inst mine theirs m r p a b h k e = absurd (omega arith)

-- only one answer is the first true answer
pub one_first : (inst : Instance) (mine theirs : List ℕ) (m : List (Option ℕ)) (r p : ℕ) (a b : Why) →
    IsFirst inst mine theirs m r p a → IsFirst inst mine theirs m r p b → a ≡ b
one_first inst mine theirs m r p a b h k = elim (cases_lt (turn a) (turn b)) [
  | inl c ↦ absurd (k.none_before a c h.holds)
  | inr c ↦ elim (cases_lt (turn b) (turn a)) [
    | inl d ↦ absurd (h.none_before b d k.holds)
    | inr d ↦ same_holding inst mine theirs m r p a b h.holds k.holds (omega arith)
  ]
]

-- if a placement is stable, the first true answer is not `Blocking`
pub never_blocking : (inst : Instance) (mine theirs : List ℕ) (m : List (Option ℕ)) (r p : ℕ) (a : Why) → IsFirst inst mine theirs m r p a →
    IsStable inst m → a ≡ Blocking → ⊥
never_blocking inst mine theirs m r p a h stable e = stable.nothing_blocks r p (subst (Holds inst mine theirs m r p) e h.holds)

-- a withdrawn member is in no acceptable pair
pub not_withdrawn : (inst : Instance) → IsInstance inst → (r p : ℕ) → Acceptable inst r p → HasWithdrawn inst r p → ⊥
not_withdrawn inst is r p a (inl c) =
    IsListed-nil p (subst (λ (xs : List ℕ). IsListed xs p) (is.withdrawn_residents_rank_nobody r c) ((is.both_rank p r).0 a))
not_withdrawn inst is r p a (inr c) =
    IsListed-nil r (subst (λ (xs : List ℕ). IsListed xs r) (is.withdrawn_programmes_rank_nobody p c) a)

-- none of the first five answers is true of an acceptable pair that isn't matched, if resident r has no programme that
-- stands before p
none_of_five : (inst : Instance) → IsInstance inst → (mine theirs : List ℕ) (m : List (Option ℕ)) (r p : ℕ) → AreListsOf inst r p mine theirs →
    Acceptable inst r p → (IsMemberOf m r p → ⊥) → ((own : ℕ) → IsMemberOf m r own → IsBefore mine p own) →
    (a : Why) → turn a < 5 → Holds inst mine theirs m r p a → ⊥
none_of_five inst is mine theirs m r p w a not has Withdrawn l h = not_withdrawn inst is r p a h
none_of_five inst is mine theirs m r p w a not has NotListed l h = h (written_parts inst r p mine theirs w a).0
none_of_five inst is mine theirs m r p w a not has NotRanked l h = h (written_parts inst r p mine theirs w a).1
none_of_five inst is mine theirs m r p w a not has Matched l h = not h
none_of_five inst is mine theirs m r p w a not has (PrefersOwn own i j) l h =
    let b = has own h.has_own in
    let x = ranked mine own i (sym h.own_ranked) in
    let y = ranked mine p j (sym h.ranked) in
    let c = h.before in omega arith
none_of_five inst is mine theirs m r p w a not has (Full i k q) l h = absurd (omega arith)
none_of_five inst is mine theirs m r p w a not has Blocking l h = absurd (omega arith)

-- for an acceptable pair that isn't matched, if resident r has no programme that stands before p, only the last two
-- answers can be true
pub asks : (inst : Instance) → IsInstance inst → (mine theirs : List ℕ) (m : List (Option ℕ)) (r p : ℕ) → AreListsOf inst r p mine theirs → IsResident inst r →
    Acceptable inst r p → (IsMemberOf m r p → ⊥) → ((own : ℕ) → IsMemberOf m r own → IsBefore mine p own) → Asks inst mine theirs m r p
asks inst is mine theirs m r p w within a not has = record {
  wants = record { acceptable = a; not_placed = not; would = would (programme_of m r) refl };
  none_yet = none_of_five inst is mine theirs m r p w a not has;
}
  where
    would : (o : Option ℕ) → programme_of m r ≡ o → Prefers (list_of_resident inst r) p o
    would None e = tt
    would (Some own) e = resident_before inst r p mine theirs p own w within ((is.both_rank p r).0 a) (has own e)

-- a resident without a programme has no programme that stands before p
pub before_none : (mine : List ℕ) (m : List (Option ℕ)) (r p : ℕ) → programme_of m r ≡ None → (own : ℕ) → IsMemberOf m r own → IsBefore mine p own
before_none mine m r p none own is = absurd (cc)

pub before_unlisted : (mine : List ℕ) (m : List (Option ℕ)) (r p j o : ℕ) → Some j ≡ rank mine p → programme_of m r ≡ Some o → None ≡ rank mine o →
    (own : ℕ) → IsMemberOf m r own → IsBefore mine p own
before_unlisted mine m r p j o e has none own is =
    let same : o ≡ own = same_Some o own (sym has ∙ is) in
    let past = place_unranked mine o none in
    let at = (ranked mine p j e).0 in
    subst (IsBefore mine p) same (omega arith)

-- if resident r's programme does not stand before p on r's list, no programme of r stands before p
pub before_later : (mine : List ℕ) (m : List (Option ℕ)) (r p i j o : ℕ) → Some j ≡ rank mine p → programme_of m r ≡ Some o → Some i ≡ rank mine o → j ≤ i →
    (IsMemberOf m r p → ⊥) → (own : ℕ) → IsMemberOf m r own → IsBefore mine p own
before_later mine m r p i j o e has f l not own is = elim (cases_lt (place mine p) (place mine own)) [
  | inl c ↦ c
  | inr c ↦
      let same : o ≡ own = same_Some o own (sym has ∙ is) in
      let x = ranked mine o i f in
      let y = ranked mine p j e in
      let at = ap (place mine) same in
      let alike : p ≡ own = same_from_place mine p own y.0 (let a = x.1 in let b = y.1 in omega arith) in
      absurd (not (subst (IsMemberOf m r) (sym alike) is))
]

-- in a stable placement, a resident who would rather have programme p has no programme that stands before p
stable_before : (inst : Instance) → IsInstance inst → (mine theirs : List ℕ) (m : List (Option ℕ)) (r p : ℕ) → AreListsOf inst r p mine theirs → IsResident inst r →
    IsStable inst m → Wants inst m r p → (own : ℕ) → IsMemberOf m r own → IsBefore mine p own
stable_before inst is mine theirs m r p w within stable wants own has = elim (cases_lt (place mine p) (place mine own)) [
  | inl c ↦ c
  | inr c ↦
      let list : List ℕ = list_of_resident inst r in
      let would : IsBefore list p own = subst (Prefers list p) has wants.would in
      let listed : IsListed list own = (is.both_rank own r).0 (stable.is_assignment.pairs_acceptable r own has) in
      elim (cases_lt (place mine own) (place mine p)) [
        | inl d ↦ let other = resident_before inst r p mine theirs own p w within listed d in absurd (omega arith)
        | inr d ↦
            let mine_p = (written_parts inst r p mine theirs w wants.acceptable).0 in
            let same : p ≡ own = same_from_place mine p own mine_p (omega arith) in
            absurd (wants.not_placed (subst (IsMemberOf m r) (sym same) has))
      ]
]

-- in a stable placement, a resident who would rather have programme p gets the answer that all places of p were taken
pub tells_full : (inst : Instance) → IsInstance inst → (mine theirs : List ℕ) (m : List (Option ℕ)) (r p : ℕ) (a : Why) → AreListsOf inst r p mine theirs → IsResident inst r →
    IsFirst inst mine theirs m r p a → IsStable inst m → Wants inst m r p → TellsFull a
tells_full inst is mine theirs m r p a w within h stable wants =
    go a h.holds (none_of_five inst is mine theirs m r p w wants.acceptable wants.not_placed (stable_before inst is mine theirs m r p w within stable wants) a)
  where
    go : (a : Why) → Holds inst mine theirs m r p a → (turn a < 5 → Holds inst mine theirs m r p a → ⊥) → TellsFull a
    go Withdrawn k none = none (omega arith) k
    go NotListed k none = none (omega arith) k
    go NotRanked k none = none (omega arith) k
    go Matched k none = none (omega arith) k
    go (PrefersOwn own i j) k none = none (omega arith) k
    go (Full i l q) k none = tt
    go Blocking k none = stable.nothing_blocks r p k

-- which answer is the first true answer of r and p, from what is known of the two
module _ (inst : Instance) (mine theirs : List ℕ) (m : List (Option ℕ)) (r p : ℕ) where
  pub first_withdrawn : HasWithdrawn inst r p → IsFirst inst mine theirs m r p Withdrawn
  first_withdrawn h = record { holds = h; none_before = λ other l k. absurd (omega arith) }

  pub first_unlisted : (HasWithdrawn inst r p → ⊥) → (IsListed mine p → ⊥) → IsFirst inst mine theirs m r p NotListed
  first_unlisted here n = record { holds = n; none_before = none }
    where
      none : (other : Why) → turn other < 1 → Holds inst mine theirs m r p other → ⊥
      none Withdrawn l k = here k
      none other l k = absurd (omega arith)

  pub first_unranked : (HasWithdrawn inst r p → ⊥) → IsListed mine p → (IsListed theirs r → ⊥) → IsFirst inst mine theirs m r p NotRanked
  first_unranked here listed n = record { holds = n; none_before = none }
    where
      none : (other : Why) → turn other < 2 → Holds inst mine theirs m r p other → ⊥
      none Withdrawn l k = here k
      none NotListed l k = k listed
      none other l k = absurd (omega arith)

  pub first_matched : (HasWithdrawn inst r p → ⊥) → IsListed mine p → IsListed theirs r → IsMemberOf m r p → IsFirst inst mine theirs m r p Matched
  first_matched here listed ranks is = record { holds = is; none_before = none }
    where
      none : (other : Why) → turn other < 3 → Holds inst mine theirs m r p other → ⊥
      none Withdrawn l k = here k
      none NotListed l k = k listed
      none NotRanked l k = k ranks
      none other l k = absurd (omega arith)

  pub first_better : (HasWithdrawn inst r p → ⊥) → IsListed theirs r → (IsMemberOf m r p → ⊥) → (own i j : ℕ) → HasBetter mine m r p own i j →
      IsFirst inst mine theirs m r p (PrefersOwn own i j)
  first_better here ranks not own i j better = record { holds = better; none_before = none }
    where
      none : (other : Why) → turn other < 4 → Holds inst mine theirs m r p other → ⊥
      none Withdrawn l k = here k
      none NotListed l k = k (ranked mine p j (sym better.ranked)).0
      none NotRanked l k = k ranks
      none Matched l k = not k
      none other l k = absurd (omega arith)

-- if programme p has as many members as places and all of them stand before resident r, the first true answer is `Full`
pub first_full : (inst : Instance) (mine theirs : List ℕ) (m : List (Option ℕ)) (r p rank_there : ℕ) (taken : Taken) → Asks inst mine theirs m r p →
    Some rank_there ≡ rank theirs r → IsTaken theirs m p taken → (HasRoomAt taken (quota inst p) rank_there → ⊥) →
    IsFirst inst mine theirs m r p (Full rank_there taken.last (quota inst p))
first_full inst mine theirs m r p i taken h e t roomless = record {
  holds = record {
    ranked = sym e;
    last = t.last;
    has_quota = refl;
    all_taken = elim (cases_lt taken.members (quota inst p)) [
      | inl c ↦ absurd (roomless (inl c))
      | inr c ↦ let all = t.members in omega arith
    ];
    all_before = λ s is. before taken.last t.last (λ k. roomless (inr k)) s is;
  };
  none_before = h.none_yet;
}
  where
    before : (o : Option ℕ) → IsLastPlace theirs m p o → (StandsPast o i → ⊥) → (s : ℕ) → IsMemberOf m s p → IsBefore theirs s r
    before None l past s is = absurd (l s is)
    before (Some k) l past s is = elim (cases_lt k i) [
      | inl c ↦ let b = l.1 s is in let at = (ranked theirs r i e).1 in omega arith
      | inr c ↦ absurd (past c)
    ]

-- if programme p has a free place or a member who stands behind resident r, then p has room for r
has_room : (inst : Instance) → IsInstance inst → (mine theirs : List ℕ) (m : List (Option ℕ)) (r p rank_there : ℕ) (taken : Taken) →
    AreListsOf inst r p mine theirs → IsProgramme inst p → Wants inst m r p → Some rank_there ≡ rank theirs r → IsTaken theirs m p taken →
    HasRoomAt taken (quota inst p) rank_there → HasRoomFor inst m p r
has_room inst is mine theirs m r p i taken w within wants e t (inl c) = inl (let all = t.members in omega arith)
has_room inst is mine theirs m r p i taken w within wants e t (inr c) = inr (past taken.last t.last c)
  where
    past : (o : Option ℕ) → IsLastPlace theirs m p o → StandsPast o i → (s : ℕ) × IsMemberOf m s p × IsBefore (list_of_programme inst p) r s
    past None l c = absurd c
    past (Some k) l c =
        let at = ranked theirs r i e in
        let s : ℕ = l.0.0 in
        let stands = l.0.2 in (
          s,
          l.0.1,
          programme_before inst r p mine theirs r s w (let one = is.one_list_each in omega arith) wants.acceptable
              (elim (cases_lt (place theirs r) (place theirs s)) [
                | inl d ↦ d
                | inr d ↦
                    let here = at.1 in
                    let same : r ≡ s = same_from_place theirs r s at.0 (omega arith) in
                    absurd (wants.not_placed (subst (λ z. IsMemberOf m z p) (sym same) l.0.1))
              ]),
        )

pub first_blocking : (inst : Instance) → IsInstance inst → (mine theirs : List ℕ) (m : List (Option ℕ)) (r p rank_there : ℕ) (taken : Taken) →
    AreListsOf inst r p mine theirs → IsProgramme inst p → Asks inst mine theirs m r p → Some rank_there ≡ rank theirs r → IsTaken theirs m p taken →
    HasRoomAt taken (quota inst p) rank_there → IsFirst inst mine theirs m r p Blocking
first_blocking inst is mine theirs m r p i taken w within h e t room = record {
  holds = record {
    acceptable = h.wants.acceptable;
    not_placed = h.wants.not_placed;
    resident_would = h.wants.would;
    programme_would = has_room inst is mine theirs m r p i taken w within h.wants e t room;
  };
  none_before = λ other l k. none other l k;
}
  where
    not_full : (o : Option ℕ) → IsLastPlace theirs m p o → StandsPast o i → ((s : ℕ) → IsMemberOf m s p → IsBefore theirs s r) → ⊥
    not_full None l c all = c
    not_full (Some k) l c all = let b = all l.0.0 l.0.1 in let at = (ranked theirs r i e).1 in let stands = l.0.2 in omega arith

    none : (other : Why) → turn other < 6 → Holds inst mine theirs m r p other → ⊥
    none (Full j k q) l full = elim room [
      | inl c ↦ let all = t.members in let taken_all = full.all_taken in omega arith
      | inr c ↦ not_full taken.last t.last c full.all_before
    ]
    none Blocking l k = absurd (omega arith)
    none Withdrawn l k = h.none_yet Withdrawn (omega arith) k
    none NotListed l k = h.none_yet NotListed (omega arith) k
    none NotRanked l k = h.none_yet NotRanked (omega arith) k
    none Matched l k = h.none_yet Matched (omega arith) k
    none (PrefersOwn own a b) l k = h.none_yet (PrefersOwn own a b) (omega arith) k

-- if a placement names only programmes, the programme that an answer names is a programme
pub names_programme : (inst : Instance) (m : List (Option ℕ)) (r : ℕ) (a : Why) → NamesOwn m r a → GivesProgrammes inst m → NamesProgramme inst a
names_programme inst m r Withdrawn h gives = tt
names_programme inst m r NotListed h gives = tt
names_programme inst m r NotRanked h gives = tt
names_programme inst m r Matched h gives = tt
names_programme inst m r (PrefersOwn own i j) h gives = gives r own h
names_programme inst m r (Full i k q) h gives = tt
names_programme inst m r Blocking h gives = tt
