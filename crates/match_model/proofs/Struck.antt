-- A draft with withdrawals has the same lists in its instance as the draft in which the withdrawn members are struck
-- from all lists.
use Rattle.std.proofs.Common.{◌≡◌, ℕ, Bool, true, false, cond, List, [], ◌∷◌, map, Option, Some, refl, sym, ap, ◌∙◌, suc, zero, not, ◌&&◌}
use Rattle.std.specs.Prelude.{◌↔◌, if◌then◌else◌}
use Rattle.std.specs.List.{filter}
use Rattle.std.proofs.lemmas.Bool.{and_parts, and_from}
use Rattle.std.proofs.lemmas.List.{ext_get_or, length-map}
use Rattle.match_model.specs.Ranking.{is_listed}
use Rattle.match_model.specs.Instance.{Acceptable, list_at, is_withdrawn}
use Rattle.match_model.specs.Draft.{Draft, given_lists, remaining_lists, programme_lists_left, resident_lists_left, mutual_lists, instance_of}
use Rattle.match_model.specs.Withdrawals.{ListOneAnother, strike, struck_lists, struck, with_flags, none_withdrawn, AreAllHere}
use Rattle.match_model.proofs.Rankings.{is_listed-true, is_listed_from, is_listed-filter}
use Rattle.match_model.proofs.Remaining.{remaining_at, remaining_withdrawn}
use Rattle.match_model.proofs.Mutual.{length-mutual_lists}
use Rattle.match_model.proofs.Kept.{mutual_list_at, listed_both}

-- a member on a remaining list also stands on the given list, and the owner of the list is not withdrawn
left_from : (lists : List (List ℕ)) (flags : List Bool) (i x : ℕ) → is_listed (list_at (remaining_lists lists flags) i) x ≡ true → (is_listed (list_at lists i) x ≡ true) × (is_withdrawn flags i ≡ false)
left_from lists flags i x h = split (is_withdrawn flags i) (sym (ap (λ (xs : List ℕ). is_listed xs x) (remaining_at lists flags i)) ∙ h)
  where
    split : (b : Bool) → is_listed (if b then [] else list_at lists i) x ≡ true → (is_listed (list_at lists i) x ≡ true) × (b ≡ false)
    split true e = cc
    split false e = (e, refl)

left_stays : (lists : List (List ℕ)) (flags : List Bool) (i x : ℕ) → is_listed (list_at lists i) x ≡ true → is_withdrawn flags i ≡ false → is_listed (list_at (remaining_lists lists flags) i) x ≡ true
left_stays lists flags i x h e = ap (λ (xs : List ℕ). is_listed xs x) (remaining_at lists flags i ∙ ap (λ b. if b then [] else list_at lists i) e) ∙ h

-- a pair is acceptable exactly if each member listed the other and neither is withdrawn
pub acceptable_where : (d : Draft) (r p : ℕ) → Acceptable (instance_of d) r p ↔ ListOneAnother d r p
acceptable_where d r p = (there, back)
  where
    there : Acceptable (instance_of d) r p → ListOneAnother d r p
    there a =
        let both = and_parts (is_listed (list_at (programme_lists_left d) p) r) (is_listed (list_at (resident_lists_left d) r) p)
        (sym (listed_both (programme_lists_left d) (resident_lists_left d) p r) ∙ is_listed_from _ r a) in
        let mine = left_from (given_lists d.programme_lists) d.programmes_withdrawn p r both.0 in
        let theirs = left_from (given_lists d.resident_lists) d.residents_withdrawn r p both.1 in
        record {
          programme_lists_resident = is_listed-true _ r mine.0;
          resident_lists_programme = is_listed-true _ p theirs.0;
          programme_stays = mine.1;
          resident_stays = theirs.1;
        }

    back : ListOneAnother d r p → Acceptable (instance_of d) r p
    back l =
        is_listed-true _ r (listed_both (programme_lists_left d) (resident_lists_left d) p r ∙ and_from (is_listed (list_at (programme_lists_left d) p) r) (is_listed (list_at (resident_lists_left d) r) p)
        (left_stays (given_lists d.programme_lists) d.programmes_withdrawn p r (is_listed_from _ r l.programme_lists_resident) l.programme_stays)
        (left_stays (given_lists d.resident_lists) d.residents_withdrawn r p (is_listed_from _ p l.resident_lists_programme) l.resident_stays))

-- if nobody is withdrawn, the remaining lists are the given lists
pub remaining_nobody : (lists : List (List ℕ)) (flags : List Bool) → AreAllHere flags → remaining_lists lists flags ≡ lists
remaining_nobody [] flags h = refl
remaining_nobody (l ∷ ls) [] h = refl
remaining_nobody (l ∷ ls) (f ∷ fs) h = ap (λ b. (if b then [] else l) ∷ remaining_lists ls fs) (h 0) ∙ ap (λ (xs : List (List ℕ)). l ∷ xs) (remaining_nobody ls fs (λ i. h (suc i)))

remaining_none : (lists : List (List ℕ)) (flags : List Bool) → remaining_lists lists (none_withdrawn flags) ≡ lists
remaining_none [] flags = refl
remaining_none (l ∷ ls) [] = refl
remaining_none (l ∷ ls) (f ∷ fs) = ap (λ (xs : List (List ℕ)). l ∷ xs) (remaining_none ls fs)

pub all_here : (d : Draft) → AreAllHere d.programmes_withdrawn → AreAllHere d.residents_withdrawn → (instance_of d).programme_lists ≡ mutual_lists (given_lists d.programme_lists) (given_lists d.resident_lists)
all_here d p r = λ i. mutual_lists (remaining_nobody (given_lists d.programme_lists) d.programmes_withdrawn p i) (remaining_nobody (given_lists d.resident_lists) d.residents_withdrawn r i)

pub all_here_too : (d : Draft) → AreAllHere d.programmes_withdrawn → AreAllHere d.residents_withdrawn → (instance_of d).resident_lists ≡ mutual_lists (given_lists d.resident_lists) (given_lists d.programme_lists)
all_here_too d p r = λ i. mutual_lists (remaining_nobody (given_lists d.resident_lists) d.residents_withdrawn r i) (remaining_nobody (given_lists d.programme_lists) d.programmes_withdrawn p i)

-- the given lists of a draft from which withdrawn members were struck are the draft's given lists without these
-- members
given_struck : (flags : List Bool) (lists : List (List ℕ)) → given_lists (map (λ list. Some (strike flags list)) lists) ≡ map (strike flags) lists
given_struck flags [] = refl
given_struck flags (l ∷ ls) = ap (λ (xs : List (List ℕ)). strike flags l ∷ xs) (given_struck flags ls)

struck_at : (flags : List Bool) (lists : List (List ℕ)) (i : ℕ) → list_at (map (strike flags) lists) i ≡ strike flags (list_at lists i)
struck_at flags [] i = refl
struck_at flags (l ∷ ls) zero = refl
struck_at flags (l ∷ ls) (suc i) = struck_at flags ls i

-- a filter by two tests is a filter by the first test, and then by the second
filter_parted : (p q s : ℕ → Bool) → ((x : ℕ) → p x ≡ q x && s x) → (xs : List ℕ) → filter p xs ≡ filter s (filter q xs)
filter_parted p q s h [] = refl
filter_parted p q s h (x ∷ xs) =
    ap (λ b. cond b (x ∷ filter p xs) (filter p xs)) (h x) ∙ ap (λ (ys : List ℕ). cond (q x && s x) (x ∷ ys) ys) (filter_parted p q s h xs) ∙ step (q x)
  where
    step : (b : Bool) → cond (b && s x) (x ∷ filter s (filter q xs)) (filter s (filter q xs)) ≡ filter s (cond b (x ∷ filter q xs) (filter q xs))
    step true = refl
    step false = refl

-- the mutual lists of the lists that remain are those of the lists from which withdrawn members were struck
module _ (mine theirs : List (List ℕ)) (my_flags their_flags : List Bool) where
  abbrev my_left : List (List ℕ)
  my_left = remaining_lists mine my_flags

  abbrev their_left : List (List ℕ)
  their_left = remaining_lists theirs their_flags

  listed_struck : (o x : ℕ) → is_withdrawn my_flags o ≡ false → is_listed (list_at their_left x) o ≡ not (is_withdrawn their_flags x) && is_listed (list_at (map (strike my_flags) their_left) x) o
  listed_struck o x e =
      sym (right ∙ absorb (is_listed (list_at their_left x) o) (is_withdrawn their_flags x) (λ w. ap (λ (xs : List ℕ). is_listed xs o) (remaining_withdrawn theirs their_flags x w)))
    where
      here : (b : Bool) → b && true ≡ b
      here true = refl
      here false = refl

      right : not (is_withdrawn their_flags x) && is_listed (list_at (map (strike my_flags) their_left) x) o ≡ not (is_withdrawn their_flags x) && is_listed (list_at their_left x) o
      right = ap (λ b. not (is_withdrawn their_flags x) && b)
          (ap (λ (xs : List ℕ). is_listed xs o) (struck_at my_flags their_left x) ∙ is_listed-filter (λ y. not (is_withdrawn my_flags y)) (list_at their_left x) o
          ∙ ap (λ b. is_listed (list_at their_left x) o && not b) e ∙ here (is_listed (list_at their_left x) o))

      absorb : (l w : Bool) → (w ≡ true → l ≡ false) → not w && l ≡ l
      absorb l true h = sym (h refl)
      absorb l false h = refl

  mutual_struck_at : (o : ℕ) → filter (λ x. is_listed (list_at their_left x) o) (list_at my_left o) ≡ filter (λ x. is_listed (list_at (map (strike my_flags) their_left) x) o) (list_at (map (strike their_flags) my_left) o)
  mutual_struck_at o = pick (is_withdrawn my_flags o) refl ∙ ap (filter (λ x. is_listed (list_at (map (strike my_flags) their_left) x) o)) (sym (struck_at their_flags my_left o))
    where
      pick : (b : Bool) → is_withdrawn my_flags o ≡ b → filter (λ x. is_listed (list_at their_left x) o) (list_at my_left o) ≡ filter (λ x. is_listed (list_at (map (strike my_flags) their_left) x) o) (strike their_flags (list_at my_left o))
      pick true e =
          let none = remaining_withdrawn mine my_flags o e in
          ap (filter (λ x. is_listed (list_at their_left x) o)) none ∙ sym (ap (λ (xs : List ℕ). filter (λ x. is_listed (list_at (map (strike my_flags) their_left) x) o) (strike their_flags xs)) none)
      pick false e = filter_parted (λ x. is_listed (list_at their_left x) o) (λ x. not (is_withdrawn their_flags x)) (λ x. is_listed (list_at (map (strike my_flags) their_left) x) o) (λ x. listed_struck o x e) (list_at my_left o)

  mutual_struck : mutual_lists my_left their_left ≡ mutual_lists (map (strike their_flags) my_left) (map (strike my_flags) their_left)
  mutual_struck = ext_get_or [] _ _
      (length-mutual_lists my_left their_left ∙ sym (length-mutual_lists (map (strike their_flags) my_left) (map (strike my_flags) their_left) ∙ length-map my_left (strike their_flags)))
      (λ o h. mutual_list_at my_left their_left o ∙ mutual_struck_at o ∙ sym (mutual_list_at (map (strike their_flags) my_left) (map (strike my_flags) their_left) o))

-- for a draft from which the withdrawn members were struck, the remaining lists are the draft's remaining lists
-- without these members
struck_left : (lists : List (Option (List ℕ))) (owners others : List Bool) → remaining_lists (given_lists (struck_lists lists owners others)) (none_withdrawn owners) ≡ map (strike others) (remaining_lists (given_lists lists) owners)
struck_left lists owners others = remaining_none (given_lists (struck_lists lists owners others)) owners ∙ given_struck others (remaining_lists (given_lists lists) owners)

-- the instance of a draft with withdrawals is the instance of the struck draft, with the flags of the withdrawn members
pub as_struck : (d : Draft) → instance_of d ≡ with_flags (instance_of (struck d)) d.programmes_withdrawn d.residents_withdrawn
as_struck d =
    let ps = struck_left d.programme_lists d.programmes_withdrawn d.residents_withdrawn in
    let rs = struck_left d.resident_lists d.residents_withdrawn d.programmes_withdrawn in
    let programmes : mutual_lists (programme_lists_left d) (resident_lists_left d) ≡ mutual_lists (programme_lists_left (struck d)) (resident_lists_left (struck d)) =
    mutual_struck (given_lists d.programme_lists) (given_lists d.resident_lists) d.programmes_withdrawn d.residents_withdrawn ∙ sym (λ i. mutual_lists (ps i) (rs i)) in
    let residents : mutual_lists (resident_lists_left d) (programme_lists_left d) ≡ mutual_lists (resident_lists_left (struck d)) (programme_lists_left (struck d)) =
    mutual_struck (given_lists d.resident_lists) (given_lists d.programme_lists) d.residents_withdrawn d.programmes_withdrawn ∙ sym (λ i. mutual_lists (rs i) (ps i)) in
    λ i. record { quotas = d.quotas; programme_lists = programmes i; resident_lists = residents i; programmes_withdrawn = d.programmes_withdrawn; residents_withdrawn = d.residents_withdrawn }
