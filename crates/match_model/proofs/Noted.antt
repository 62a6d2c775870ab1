-- Tables of places: what an entry of the table says about a number in the list.
use Rattle.std.proofs.Common.{◌≡◌, ◌≢◌, ℕ, ◌+◌, ◌<◌, ◌≤◌, Bool, true, false, List, length, get_or, set, take, Some, None, refl, sym, ap, ◌∙◌, arith, ⊎_elim}
use Rattle.std.proofs.lemmas.Bool.{cases_lt}
use Rattle.std.proofs.lemmas.List.{get_or-take, length-take, get_or-set_other}
use Rattle.std.proofs.lemmas.Grind.{get_or-set_at}
use Rattle.std.specs.Prelude.{if◌then◌else◌, is_some}
use Rattle.match_model.specs.Ranking.{is_listed, place}
use Rattle.match_model.specs.Instance.{rank}
use Rattle.match_model.specs.Places.{ArePlaces}
use Rattle.match_model.proofs.Rankings.{rank_found, rank_none, is_listed_at}

-- if a number stands in the list at the place that the table notes, this place is its rank
pub noted_rank : (list places : List ℕ) (x : ℕ) → ArePlaces list places → get_or places x 0 < length list → get_or list (get_or places x 0) 0 ≡ x → Some (get_or places x 0) ≡ rank list x
noted_rank list places x noted within same =
    rank_found list x (get_or places x 0) within same (λ k l e.
    let here : get_or places x 0 ≡ k = sym (ap (λ n. get_or places n 0) e) ∙ noted k (omega arith) in
    absurd (omega arith))

-- if a number does not stand in the list at the place that the table notes, it has no rank
pub noted_none : (list places : List ℕ) (x : ℕ) → ArePlaces list places → (get_or places x 0 < length list → get_or list (get_or places x 0) 0 ≢ x) → None ≡ rank list x
noted_none list places x noted other =
    rank_none list x (λ k l e.
    let here : get_or places x 0 ≡ k = sym (ap (λ n. get_or places n 0) e) ∙ noted k l in
    other (omega arith) (ap (λ n. get_or list n 0) here ∙ e))

-- the table notes one more item of the list, which did not stand earlier in the list
pub ArePlaces-more : (list places : List ℕ) (i : ℕ) → i < length list → ((k : ℕ) → k < i → get_or list k 0 ≢ get_or list i 0) → get_or list i 0 < length places → ArePlaces (take i list) places → ArePlaces (take (i + 1) list) (set places (get_or list i 0) i)
ArePlaces-more list places i h apart below noted k l =
    let n = length-take (i + 1) list in
    let m = length-take i list in
    let here : get_or (take (i + 1) list) k 0 ≡ get_or list k 0 = get_or-take (i + 1) list k 0 (omega arith) in
    ap (λ x. get_or (set places (get_or list i 0) i) x 0) here
    ∙ ⊎_elim
    (λ (b : k < i).
    get_or-set_other places (get_or list i 0) (get_or list k 0) i 0 (apart k b)
    ∙ sym (ap (λ x. get_or places x 0) (get_or-take i list k 0 b)) ∙ noted k (omega arith))
    (λ (b : i ≤ k).
    let same : k ≡ i = omega arith in
    get_or-set_at places (get_or list i 0) (get_or list k 0) i 0 (ap (λ j. get_or list j 0) same) below ∙ sym same)
    (cases_lt k i)

-- a number has a rank exactly if it is listed
pub is_some-rank : (xs : List ℕ) (x : ℕ) → is_some (rank xs x) ≡ is_listed xs x
is_some-rank xs x = step (is_listed xs x) (place xs x)
  where
    step : (b : Bool) (p : ℕ) → is_some (if b then Some p else None) ≡ b
    step true p = refl
    step false p = refl

-- no item of a list is equal to a number that isn't listed
pub unlisted_apart : (xs : List ℕ) (x : ℕ) → is_listed xs x ≡ false → (k : ℕ) → k < length xs → get_or xs k 0 ≢ x
unlisted_apart xs x e k l same = true≢false (sym (is_listed_at xs x k l same) ∙ e)
  where
    true≢false : true ≡ false → ⊥
    true≢false h = cc
