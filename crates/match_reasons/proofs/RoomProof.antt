-- Why the last rank of a full programme is at least its number of places.
use Rattle.std.proofs.Common.{ℕ, zero, suc, ◌+◌, ◌<◌, ◌≤◌, inl, inr, List, [], ◌∷◌, length, take, arith, subst}
use Rattle.std.proofs.lemmas.List.Sums.{count_by-le-length}
use Rattle.match_model.specs.Ranking.{place, IsListed, is_listed}
use Rattle.settle_law.proofs.Counting.{different_among}
use Rattle.settle_law.proofs.Places.{place_cases, IsListed-nil, IsListed-cons_same, IsListed-cons}
use Rattle.match_reasons.specs.Pairs.{RoomLaw}

listed_take : (xs : List ℕ) (n x : ℕ) → place xs x < n → IsListed xs x → IsListed (take n xs) x
listed_take [] n x l h = absurd (IsListed-nil x h)
listed_take (y ∷ ys) zero x l h = absurd (omega arith)
listed_take (y ∷ ys) (suc n) x l h = elim (place_cases y ys x) [
  | inl here ↦ subst (IsListed (y ∷ take n ys)) here.0 (IsListed-cons_same y (take n ys))
  | inr past ↦ IsListed-cons y (take n ys) x (listed_take ys n x (let e = past.1 in omega arith) (let e = past.1 in omega arith))
]

take_short : (n : ℕ) (xs : List ℕ) → length (take n xs) ≤ n
take_short zero xs = omega arith
take_short (suc n) [] = omega arith
take_short (suc n) (x ∷ xs) = let h = take_short n xs in omega arith

pub room : RoomLaw
room theirs members places r rank last quota good full =
    let upto = take (last + 1) theirs in
    let among = different_among members (take (last + 1) theirs) good.none_twice
    (λ s l. listed_take theirs (last + 1) s (let le = full.last_is.1 s l in omega arith) (good.listed s l)) in
    let le = count_by-le-length (is_listed members) (take (last + 1) theirs) in
    let short = take_short (last + 1) theirs in
    let q = full.quota_is in
    let f = full.all_filled in
    omega arith
