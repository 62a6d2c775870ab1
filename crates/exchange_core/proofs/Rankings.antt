-- The best-ranked item among the items of a list.
use Rattle.std.proofs.Common.{◌≡◌, ℕ, ◌+◌, ◌<◌, ◌≤◌, Bool, true, false, ltb, ◌⊎◌, inl, inr, List, [], ◌∷◌, ◌++◌, Option, Some, None, refl, ap, sym, ◌∙◌, subst, arith, le_of_eq}
use Rattle.std.specs.List.{list_all}
use Rattle.std.proofs.lemmas.Bool.{eq-eqb, ltb-true, ltb-false, lt-ltb, and_parts, and_cases, and_from}
use Rattle.std.proofs.lemmas.Option.{same_Some}
use Rattle.match_model.specs.Ranking.{place, IsListed, is_listed}
use Rattle.match_model.proofs.Rankings.{is_listed-true, is_listed-false, is_listed_from, is_listed_not}
use Rattle.match_model.proofs.Listed.{same_from_place, place-tail, listed_push_parts, listed_push_before, listed_push_last, list_all_listed, list_all_from_listed, list_all_fails}
use Rattle.exchange_core.specs.Calls.{beats_all, best_of}

-- item b is ranked in a and stands in list l, and no item of l is ranked before b
abbrev pub IsFirstListed : List ℕ → List ℕ → ℕ → Type 0
IsFirstListed a l b = IsListed a b × IsListed l b × ((q : ℕ) → IsListed l q → place a b ≤ place a q)

pub best_of_Some : (a l : List ℕ) (b : ℕ) → best_of a l ≡ Some b → IsFirstListed a l b
best_of_Some [] l b e = absurd (cc)
best_of_Some (z ∷ zs) l b e = step (is_listed l z) refl (best_of_Some zs l b)
  where
    step : (t : Bool) → is_listed l z ≡ t → (best_of zs l ≡ Some b → IsFirstListed zs l b) → IsFirstListed (z ∷ zs) l b
    step true t ih =
        let s : Some z ≡ Some b = rw t at e in
        let w : z ≡ b = same_Some z b s in
        let p : place (z ∷ zs) b ≡ 0 = rw (eq-eqb z b w) refl in
        (omega (arith, p), subst (λ (v : ℕ). IsListed l v) w (is_listed-true l z t), λ q h. omega (arith, p))
    step false t ih =
        let s : best_of zs l ≡ Some b = rw t at e in
        let r = ih s in
        let apart : (q : ℕ) → IsListed l q → z ≡ q → ⊥ = λ q h w. is_listed-false l z t (subst (λ (v : ℕ). IsListed l v) (sym w) h) in
        let p : place (z ∷ zs) b ≡ 1 + place zs b = place-tail z zs b (apart b r.1) in
        (omega (arith, p, r.0), r.1, λ q h. rw (p, place-tail z zs q (apart q h)) (omega (arith, r.2 q h)))

pub best_of_None : (a l : List ℕ) → best_of a l ≡ None → (q : ℕ) → IsListed a q → IsListed l q → ⊥
best_of_None [] l e q h k = absurd (omega arith)
best_of_None (z ∷ zs) l e q h k = step (is_listed l z) refl (best_of_None zs l)
  where
    step : (t : Bool) → is_listed l z ≡ t → (best_of zs l ≡ None → (q : ℕ) → IsListed zs q → IsListed l q → ⊥) → ⊥
    step true t ih = let s : Some z ≡ None = rw t at e in absurd (cc)
    step false t ih =
        let s : best_of zs l ≡ None = rw t at e in
        let p : place (z ∷ zs) q ≡ 1 + place zs q = place-tail z zs q (λ w. is_listed-false l z t (subst (λ (v : ℕ). IsListed l v) (sym w) k)) in
        ih s q (omega (arith, p)) k

pub best_of_is : (a l : List ℕ) (b : ℕ) → IsListed a b → IsListed l b → ((q : ℕ) → IsListed l q → place a b ≤ place a q) → best_of a l ≡ Some b
best_of_is a l b h k least = step (best_of a l) refl
  where
    step : (o : Option ℕ) → best_of a l ≡ o → best_of a l ≡ Some b
    step None e = absurd (best_of_None a l e b h k)
    step (Some c) e =
        let r = best_of_Some a l c e in
        let same : c ≡ b = same_from_place a c b r.0 (let u = r.2 b k in let v = least c r.1 in omega (arith, u, v)) in
        e ∙ ap Some same

pub best_of_none : (a l : List ℕ) → ((q : ℕ) → IsListed a q → IsListed l q → ⊥) → best_of a l ≡ None
best_of_none a l h = step (best_of a l) refl
  where
    step : (o : Option ℕ) → best_of a l ≡ o → best_of a l ≡ None
    step None e = e
    step (Some c) e = let r = best_of_Some a l c e in absurd (h c r.0 r.1)

pub beats_all-true : (a l : List ℕ) (p : ℕ) → beats_all a l p ≡ true → IsListed a p × ((q : ℕ) → IsListed l q → place a p < place a q)
beats_all-true a l p e =
    let both = and_parts _ _ e in
    (is_listed-true a p both.0, λ q h. ltb-true _ _ (list_all_listed (λ v. ltb (place a p) (place a v)) l both.1 q h))

pub beats_all_from : (a l : List ℕ) (p : ℕ) → IsListed a p → ((q : ℕ) → IsListed l q → place a p < place a q) → beats_all a l p ≡ true
beats_all_from a l p h least = and_from _ _ (is_listed_from a p h) (list_all_from_listed (λ v. ltb (place a p) (place a v)) l (λ q k. lt-ltb _ _ (least q k)))

-- an item that does not beat all earlier items isn't ranked, or some earlier item is ranked at least as high
pub beats_all-false : (a l : List ℕ) (p : ℕ) → beats_all a l p ≡ false → (IsListed a p → ⊥) ⊎ ((q : ℕ) × IsListed l q × (place a q ≤ place a p))
beats_all-false a l p e = step (and_cases _ _ e)
  where
    step : (is_listed a p ≡ false) ⊎ (list_all (λ v. ltb (place a p) (place a v)) l ≡ false) → (IsListed a p → ⊥) ⊎ ((q : ℕ) × IsListed l q × (place a q ≤ place a p))
    step (inl u) = inl (is_listed-false a p u)
    step (inr u) = let w = list_all_fails (λ v. ltb (place a p) (place a v)) l u in inr (w.0, w.1, ltb-false _ _ w.2)

-- an item that beats all earlier items is the best of the earlier items and itself
pub best_of_push_better : (a l : List ℕ) (p : ℕ) → beats_all a l p ≡ true → best_of a (l ++ p ∷ []) ≡ Some p
best_of_push_better a l p e =
    let r = beats_all-true a l p e in
    best_of_is a (l ++ p ∷ []) p r.0 (listed_push_last l p) (λ q h. step q (listed_push_parts l p q h))
  where
    step : (q : ℕ) → IsListed l q ⊎ (p ≡ q) → place a p ≤ place a q
    step q (inl h) = let r = beats_all-true a l p e in omega (arith, r.1 q h)
    step q (inr w) = le_of_eq (ap (place a) w)

pub best_of_push_same : (a l : List ℕ) (p : ℕ) → beats_all a l p ≡ false → best_of a (l ++ p ∷ []) ≡ best_of a l
best_of_push_same a l p e = step (best_of a l) refl (beats_all-false a l p e)
  where
    step : (o : Option ℕ) → best_of a l ≡ o → (IsListed a p → ⊥) ⊎ ((q : ℕ) × IsListed l q × (place a q ≤ place a p)) → best_of a (l ++ p ∷ []) ≡ best_of a l
    step None w (inl u) = best_of_none a (l ++ p ∷ []) (λ q h k. parts q h (listed_push_parts l p q k)) ∙ sym w
      where
        parts : (q : ℕ) → IsListed a q → IsListed l q ⊎ (p ≡ q) → ⊥
        parts q h (inl k) = best_of_None a l w q h k
        parts q h (inr v) = u (subst (λ (t : ℕ). IsListed a t) (sym v) h)
    step None w (inr u) = best_of_none a (l ++ p ∷ []) (λ q h k. parts q h (listed_push_parts l p q k)) ∙ sym w
      where
        parts : (q : ℕ) → IsListed a q → IsListed l q ⊎ (p ≡ q) → ⊥
        parts q h (inl k) = best_of_None a l w q h k
        parts q h (inr v) =
            let hp : IsListed a p = subst (λ (t : ℕ). IsListed a t) (sym v) h in
            best_of_None a l w u.0 (omega (arith, u.2)) u.1
    step (Some c) w u = let r = best_of_Some a l c w in best_of_is a (l ++ p ∷ []) c r.0 (listed_push_before l p c r.1) (λ q h. least q (listed_push_parts l p q h)) ∙ sym w
      where
        at_p : (IsListed a p → ⊥) ⊎ ((q : ℕ) × IsListed l q × (place a q ≤ place a p)) → place a c ≤ place a p
        at_p (inl n) = let r = best_of_Some a l c w in let k = ltb-false _ _ (is_listed_not a p n) in omega (arith, r.0, k)
        at_p (inr m) = let r = best_of_Some a l c w in omega (arith, r.2 m.0 m.1, m.2)

        least : (q : ℕ) → IsListed l q ⊎ (p ≡ q) → place a c ≤ place a q
        least q (inl h) = let r = best_of_Some a l c w in r.2 q h
        least q (inr v) = subst (λ (t : ℕ). place a c ≤ place a t) v (at_p u)
