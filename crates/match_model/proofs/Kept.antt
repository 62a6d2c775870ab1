-- The instance of a draft has all properties that every instance has.
use Rattle.std.proofs.Common.{◌≡◌, ℕ, ◌<◌, ◌≤◌, Bool, true, false, cond, eqb, ltb, List, [], ◌∷◌, length, unwrap_or, refl, sym, ap, ◌∙◌, subst, arith, ◌&&◌, ◌||◌, ⊎_elim}
use Rattle.std.specs.List.{list_all, All, filter}
use Rattle.std.proofs.lemmas.Bool.{cases_lt}
use Rattle.std.proofs.lemmas.List.{length-map, get_or_past, ext_get_or}
use Rattle.std.proofs.lemmas.List.Sums.{get_or-le-sum_by}
use Rattle.match_model.specs.Ranking.{is_listed, IsListed}
use Rattle.match_model.specs.Instance.{IsWellFormed, is_withdrawn, list_at, list_of_programme, list_of_resident, pair_count}
use Rattle.match_model.specs.Draft.{Draft, IsDraft, given_lists, programme_lists_left, resident_lists_left, instance_of, mutual_lists, has_no_repeats}
use Rattle.match_model.specs.Limits.{IsWithin, most_pairs}
use Rattle.match_model.specs.declared.limits.TheConstants.{MAX_QUOTA, MAX_PAIRS}
use Rattle.match_model.proofs.LimitFacts.{programmes_bounded, residents_bounded}
use Rattle.match_model.proofs.Rankings.{is_listed-cons, is_listed_at, is_listed-filter, has_no_repeats-filter, HasNoRepeats-from_test, length-le_below, is_listed-true, is_listed_from}
use Rattle.match_model.proofs.Mutual.{length-mutual_lists, get_or-mutual_lists}
use Rattle.match_model.proofs.Remaining.{length-remaining_lists, remaining_withdrawn, remaining_all}

-- if each list has a property, and the empty list has it, the list of any number has it
at_list : (P : List ℕ → Type 0) (lists : List (List ℕ)) (i : ℕ) → P [] → All P lists → P (list_at lists i)
at_list P lists i none all =
    ⊎_elim (λ (h : i < length lists). all i [] h) (λ (h : length lists ≤ i). subst P (sym (get_or_past lists i [] h)) none) (cases_lt i (length lists))

-- the mutual list of any number is the given list, filtered by who lists this number
pub mutual_list_at : (mine theirs : List (List ℕ)) (i : ℕ) → list_at (mutual_lists mine theirs) i ≡ filter (λ x. is_listed (list_at theirs x) i) (list_at mine i)
mutual_list_at mine theirs i =
    ⊎_elim (λ (h : i < length mine). get_or-mutual_lists mine theirs i h)
    (λ (h : length mine ≤ i). get_or_past (mutual_lists mine theirs) i [] (omega (arith, length-mutual_lists mine theirs)) ∙ sym (ap (λ (xs : List ℕ). filter (λ x. is_listed (list_at theirs x) i) xs) (get_or_past mine i [] h)))
    (cases_lt i (length mine))

-- member x stands on member i's mutual list exactly if each of the two members lists the other
pub listed_both : (mine theirs : List (List ℕ)) (i x : ℕ) → is_listed (list_at (mutual_lists mine theirs) i) x ≡ is_listed (list_at mine i) x && is_listed (list_at theirs x) i
listed_both mine theirs i x = ap (λ (xs : List ℕ). is_listed xs x) (mutual_list_at mine theirs i) ∙ is_listed-filter (λ y. is_listed (list_at theirs y) i) (list_at mine i) x

no_repeats_at : (mine theirs : List (List ℕ)) (i : ℕ) → All (λ list. has_no_repeats list ≡ true) mine → has_no_repeats (list_at (mutual_lists mine theirs) i) ≡ true
no_repeats_at mine theirs i all =
    ap has_no_repeats (mutual_list_at mine theirs i) ∙ has_no_repeats-filter (λ x. is_listed (list_at theirs x) i) (list_at mine i) (at_list (λ list. has_no_repeats list ≡ true) mine i refl all)

and_comm : (a b : Bool) → a && b ≡ b && a
and_comm true true = refl
and_comm true false = refl
and_comm false true = refl
and_comm false false = refl

turned : (mine theirs : List (List ℕ)) (i x : ℕ) → IsListed (list_at (mutual_lists mine theirs) i) x → IsListed (list_at (mutual_lists theirs mine) x) i
turned mine theirs i x h =
    is_listed-true _ i (listed_both theirs mine x i ∙ and_comm (is_listed (list_at theirs x) i) (is_listed (list_at mine i) x) ∙ sym (listed_both mine theirs i x) ∙ is_listed_from _ x h)

-- two tests that agree on all items of a list filter the list in the same way
filter_listed : (p q : ℕ → Bool) (xs : List ℕ) → ((x : ℕ) → is_listed xs x ≡ true → p x ≡ q x) → filter p xs ≡ filter q xs
filter_listed p q [] h = refl
filter_listed p q (x ∷ xs) h =
    let rest = filter_listed p q xs (λ y e. h y (is_listed-cons x xs y ∙ ap (λ b. eqb x y || b) e ∙ either (eqb x y))) in
    ap (λ b. cond b (x ∷ filter p xs) (filter p xs)) (h x (is_listed_at (x ∷ xs) x 0 (omega arith) refl)) ∙ ap (λ (ys : List ℕ). cond (q x) (x ∷ ys) ys) rest
  where
    either : (b : Bool) → b || true ≡ true
    either true = refl
    either false = refl

-- a list filtered by the other side's mutual lists is the list filtered by the other side's full lists
pub mutual_in_turn : (mine theirs : List (List ℕ)) → mutual_lists mine (mutual_lists theirs mine) ≡ mutual_lists mine theirs
mutual_in_turn mine theirs =
    ext_get_or [] (mutual_lists mine (mutual_lists theirs mine)) (mutual_lists mine theirs)
    (length-mutual_lists mine (mutual_lists theirs mine) ∙ sym (length-mutual_lists mine theirs))
    (λ i h. mutual_list_at mine (mutual_lists theirs mine) i
    ∙ filter_listed (λ x. is_listed (list_at (mutual_lists theirs mine) x) i) (λ x. is_listed (list_at theirs x) i) (list_at mine i)
    (λ x e. listed_both theirs mine x i ∙ ap (λ b. is_listed (list_at theirs x) i && b) e ∙ here (is_listed (list_at theirs x) i))
    ∙ sym (mutual_list_at mine theirs i))
  where
    here : (b : Bool) → b && true ≡ b
    here true = refl
    here false = refl

fewer_kept : (q : ℕ → Bool) (xs : List ℕ) → length (filter q xs) ≤ length xs
fewer_kept q [] = omega arith
fewer_kept q (x ∷ xs) = step (q x) (fewer_kept q xs)
  where
    step : (b : Bool) → length (filter q xs) ≤ length xs → length (cond b (x ∷ filter q xs) (filter q xs)) ≤ length (x ∷ xs)
    step true h = omega arith
    step false h = omega arith

-- a mutual list has at most as many items as the other side has members, if the lists have neither
-- repeats nor numbers from n on
length_at : (mine theirs : List (List ℕ)) (i n : ℕ) → All (λ list. has_no_repeats list ≡ true) mine → All (λ list. list_all (λ x. ltb x n) list ≡ true) mine → length (list_at (mutual_lists mine theirs) i) ≤ n
length_at mine theirs i n distinct below =
    let short : length (list_at mine i) ≤ n = length-le_below (list_at mine i) n (at_list (λ list. has_no_repeats list ≡ true) mine i refl distinct) (at_list (λ list. list_all (λ x. ltb x n) list ≡ true) mine i refl below) in
    subst (λ (xs : List ℕ). length xs ≤ n) (sym (mutual_list_at mine theirs i)) (let fewer = fewer_kept (λ x. is_listed (list_at theirs x) i) (list_at mine i) in omega arith)

-- no item stands twice in a list that remains after withdrawals
programmes_distinct : (d : Draft) → IsDraft d → All (λ list. has_no_repeats list ≡ true) (programme_lists_left d)
programmes_distinct d h = remaining_all (λ list. has_no_repeats list ≡ true) (given_lists d.programme_lists) d.programmes_withdrawn refl h.programme_lists.no_repeats

residents_distinct : (d : Draft) → IsDraft d → All (λ list. has_no_repeats list ≡ true) (resident_lists_left d)
residents_distinct d h = remaining_all (λ list. has_no_repeats list ≡ true) (given_lists d.resident_lists) d.residents_withdrawn refl h.resident_lists.no_repeats

-- a resident's list has at most as many items as the limit on pairs
resident_list_short : (d : Draft) (r : ℕ) → IsDraft d → length (list_at (instance_of d).resident_lists r) ≤ MAX_PAIRS
resident_list_short d r h =
    let below = remaining_all (λ list. list_all (λ x. ltb x (length d.quotas)) list ≡ true) (given_lists d.resident_lists) d.residents_withdrawn refl h.resident_lists.items_below in
    let one = length_at (resident_lists_left d) (programme_lists_left d) r (length d.quotas) (residents_distinct d h) below in
    let most = h.programmes_within in
    omega (arith, most, programmes_bounded d.limits)

-- the instance has as many residents' lists as the draft
pub as_many_residents : (d : Draft) → length (instance_of d).resident_lists ≡ length d.resident_lists
as_many_residents d =
    length-mutual_lists (resident_lists_left d) (programme_lists_left d) ∙ length-remaining_lists (given_lists d.resident_lists) d.residents_withdrawn ∙ length-map d.resident_lists (λ list. unwrap_or list [])

-- a withdrawn programme's list in the instance is empty
withdrawn_programme : (d : Draft) (p : ℕ) → is_withdrawn d.programmes_withdrawn p ≡ true → list_of_programme (instance_of d) p ≡ []
withdrawn_programme d p e =
    mutual_list_at (programme_lists_left d) (resident_lists_left d) p
    ∙ ap (λ (xs : List ℕ). filter (λ x. is_listed (list_at (resident_lists_left d) x) p) xs) (remaining_withdrawn (given_lists d.programme_lists) d.programmes_withdrawn p e)

withdrawn_resident : (d : Draft) (r : ℕ) → is_withdrawn d.residents_withdrawn r ≡ true → list_of_resident (instance_of d) r ≡ []
withdrawn_resident d r e =
    mutual_list_at (resident_lists_left d) (programme_lists_left d) r
    ∙ ap (λ (xs : List ℕ). filter (λ x. is_listed (list_at (programme_lists_left d) x) r) xs) (remaining_withdrawn (given_lists d.resident_lists) d.residents_withdrawn r e)

-- the instance of a draft is well formed
pub IsWellFormed-instance_of : (d : Draft) (pairs : ℕ) → IsDraft d → pair_count (instance_of d) ≤ MAX_PAIRS → pairs ≡ pair_count (instance_of d) → IsWellFormed (instance_of d) pairs
IsWellFormed-instance_of d pairs h few count = record {
  is_instance = record {
    one_list_each = length-mutual_lists (programme_lists_left d) (resident_lists_left d) ∙ length-remaining_lists (given_lists d.programme_lists) d.programmes_withdrawn ∙ length-map d.programme_lists (λ list. unwrap_or list []) ∙ h.one_list_each;
    programmes_rank_strictly = λ p. HasNoRepeats-from_test _ (no_repeats_at (programme_lists_left d) (resident_lists_left d) p (programmes_distinct d h));
    residents_rank_strictly = λ r. HasNoRepeats-from_test _ (no_repeats_at (resident_lists_left d) (programme_lists_left d) r (residents_distinct d h));
    both_rank = λ p r. (turned (programme_lists_left d) (resident_lists_left d) p r, turned (resident_lists_left d) (programme_lists_left d) r p);
    programmes_within = omega (arith, h.programmes_within, programmes_bounded d.limits);
    residents_within = omega (arith, as_many_residents d, h.residents_within, residents_bounded d.limits);
    quotas_within = λ p. ⊎_elim (λ (k : p < length d.quotas). h.quotas_within p 0 k) (λ (k : length d.quotas ≤ p). subst (λ n. n ≤ MAX_QUOTA) (sym (get_or_past d.quotas p 0 k)) (omega arith)) (cases_lt p (length d.quotas));
    pairs_within = few;
    one_flag_each_programme = h.one_flag_each_programme;
    one_flag_each_resident = h.one_flag_each_resident ∙ sym (as_many_residents d);
    withdrawn_programmes_rank_nobody = withdrawn_programme d;
    withdrawn_residents_rank_nobody = withdrawn_resident d;
  };
  pairs_counted = count;
  programme_lists_within = λ p. ⊎_elim
      (λ (k : p < length (instance_of d).programme_lists). let one = get_or-le-sum_by (λ (xs : List ℕ). length xs) (instance_of d).programme_lists p [] k in omega arith)
      (λ (k : length (instance_of d).programme_lists ≤ p). subst (λ (xs : List ℕ). length xs ≤ MAX_PAIRS) (sym (get_or_past (instance_of d).programme_lists p [] k)) (omega arith)) (cases_lt p (length (instance_of d).programme_lists));
  resident_lists_within = λ r. resident_list_short d r h;
}

-- the instance of a draft is within the limits of the draft
pub IsWithin-instance_of : (d : Draft) → IsDraft d → pair_count (instance_of d) ≤ most_pairs d.limits → IsWithin d.limits (instance_of d)
IsWithin-instance_of d h few = record {
  few_programmes = h.programmes_within;
  few_residents = omega (arith, as_many_residents d, h.residents_within);
  few_pairs = few;
}
