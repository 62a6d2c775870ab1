use Rattle.std.proofs.Common.{◌≡◌, ℕ, ◌+◌, ◌<◌, List, Bool, take, drop, true, false, ◌++◌, ◌∷◌, [], not, ◌&&◌, ltb, get_or, sym, ap, ◌∙◌, refl, arith, take-append-drop}
use Rattle.std.proofs.lemmas.Bool.{lt-ltb}
use Rattle.std.proofs.lemmas.List.{take_more, get_or-take, length-take}
use Rattle.std.proofs.lemmas.List.Folds.{list_all_more}
use Rattle.match_model.specs.Ranking.{is_listed}
use Rattle.match_model.specs.Draft.{has_no_repeats}
use Rattle.match_model.proofs.Rankings.{has_no_repeats-push, has_no_repeats-append}
use Rattle.match_model.proofs.Noted.{ArePlaces-more, unlisted_apart}
use Rattle.match_model.proofs.ranking.first_fault.Goals as goal

-- if item i of a list also stands earlier in the list, the list has a repeat
repeated : (xs : List ℕ) (i x : ℕ) → take (i + 1) xs ≡ take i xs ++ x ∷ [] → is_listed (take i xs) x ≡ true → has_no_repeats xs ≡ false
repeated xs i x e h =
    ap has_no_repeats (sym (take-append-drop (i + 1) xs)) ∙ has_no_repeats-append (take (i + 1) xs) (drop (i + 1) xs)
    (ap has_no_repeats e ∙ has_no_repeats-push (take i xs) x ∙ ap (λ b. has_no_repeats (take i xs) && not b) h ∙ absorb (has_no_repeats (take i xs)))
  where
    absorb : (n : Bool) → n && false ≡ false
    absorb true = refl
    absorb false = refl

pub fault_of_repeat-requires : goal.fault_of_repeat-requires
fault_of_repeat-requires c =
    let i : ℕ = c.loop-place.place in
    let list : List ℕ = c.args.items.now in
    repeated list i (get_or list i 0) (take_more list i 0 c.loop-place-test.true)
    (sym c.stands_in.ensures ∙ c.if-stands_in.true)

pub loop-place-preserved : goal.loop-place-preserved
loop-place-preserved c =
    let i : ℕ = c.loop-place.place in
    let list : List ℕ = c.args.items.now in
    let x : ℕ = get_or list i 0 in
    let e = take_more list i 0 c.loop-place-test.true in
    let new : is_listed (take i list) x ≡ false =
    sym c.stands_in.ensures ∙ c.if-stands_in.false in
    let below : x < c.args.other_count = omega arith in
    record {
      below = list_all_more (λ y. ltb y c.args.other_count) list i 0 c.loop-place-test.true ∙ ap (λ b. b && ltb x c.args.other_count) c.loop-place.invariant.below ∙ lt-ltb x c.args.other_count below;
      distinct = ap has_no_repeats e ∙ has_no_repeats-push (take i list) x ∙ ap (λ b. has_no_repeats (take i list) && not b) new ∙ ap (λ b. b && true) c.loop-place.invariant.distinct;
      noted = ArePlaces-more list c.loop-place.item_places i c.loop-place-test.true
          (λ k l same. unlisted_apart (take i list) x new k (omega (arith, length-take i list, c.loop-place-test.true)) (get_or-take i list k 0 l ∙ same))
          (omega (arith, c.loop-place.auto.item_places)) c.loop-place.invariant.noted;
    }
