-- The texts that are members' names, and the members' numbers.
use Rattle.std.proofs.Common.{◌≡◌, ◌≢◌, ◌≤◌, ◌<◌, ◌+◌, ℕ, zero, suc, List, [], ◌∷◌, ◌++◌, Bool, true, false, cond, length, get_or, take, replicate, arith, rules, sym, ◌∙◌, refl, ap, Option, Some, None, is_some, position}
use Rattle.std.specs.Prelude.{bytes_eq, nat_eq, slice_get, slice_set, ◌||◌}
use Rattle.std.specs.List.{IsDistinct, list_any, position_from}
use Rattle.docket_names.specs.Words.{is_name}
use Rattle.std.proofs.lemmas.List.Folds.{list_any-append}
use Rattle.std.proofs.lemmas.List.{take_all, get_or-set_same, get_or-set_other}
use Rattle.std.proofs.lemmas.List.Elements.{All-head, All-tail}
use Rattle.std.proofs.lemmas.Iterator.Adapters.{position_from-zero}
use Rattle.std.proofs.lemmas.Option.{slice_get-get_or, get_or_from_slice_get, same_Some}
use Rattle.std.proofs.lemmas.Slice.Eq.{bytes_eq-Decides}
use Rattle.docket_names.specs.Texts.{number_in, is_declared, texts_at, AreNumbersOf, AreNames, AreFoundBy, AreNoted, StartsWith}
use Rattle.docket_names.proofs.NameFacts.{is_some-position, number_in-map, number_there, same_bytes}
use Rattle.docket_names.proofs.TextFacts.{names_none, names_grown, names_more}

-- if no earlier item passes a test and the next item passes, the search finds the next item
from_hit : {A : Type 0} (p : A → Bool) (n : ℕ) (xs : List A) (x : A) → position_from p n xs ≡ None → p x ≡ true → position_from p n (xs ++ x ∷ []) ≡ Some (n + length xs)
from_hit p n [] x none hit = let count : n ≡ n + 0 = omega arith in rw hit (ap Some count)
from_hit p n (y ∷ ys) x none hit = by (p y) none (λ e. from_hit p (n + 1) ys x e hit)
  where
    by : (b : Bool) → cond b (Some n) (position_from p (n + 1) ys) ≡ None → (position_from p (n + 1) ys ≡ None → position_from p (n + 1) (ys ++ x ∷ []) ≡ Some (n + 1 + length ys))
        → cond b (Some n) (position_from p (n + 1) (ys ++ x ∷ [])) ≡ Some (n + length (y ∷ ys))
    by true e more = absurd (cc e)
    by false e more = let count : n + 1 + length ys ≡ n + length (y ∷ ys) = omega arith in more e ∙ ap Some count

from_miss : {A : Type 0} (p : A → Bool) (n : ℕ) (xs : List A) (x : A) → p x ≡ false → position_from p n (xs ++ x ∷ []) ≡ position_from p n xs
from_miss p n [] x miss = rw miss refl
from_miss p n (y ∷ ys) x miss = ap (λ o. cond (p y) (Some n) o) (from_miss p (n + 1) ys x miss)

position_hit : {A : Type 0} (p : A → Bool) (xs : List A) (x : A) → position p xs ≡ None → p x ≡ true → position p (xs ++ x ∷ []) ≡ Some (length xs)
position_hit p xs x none hit =
    let count : 0 + length xs ≡ length xs = omega arith in
    position_from-zero p (xs ++ x ∷ []) ∙ from_hit p 0 xs x (sym (position_from-zero p xs) ∙ none) hit ∙ ap Some count

position_miss : {A : Type 0} (p : A → Bool) (xs : List A) (x : A) → p x ≡ false → position p (xs ++ x ∷ []) ≡ position p xs
position_miss p xs x miss = position_from-zero p (xs ++ x ∷ []) ∙ from_miss p 0 xs x miss ∙ sym (position_from-zero p xs)

-- without members no text is a member's name
pub found_none : AreFoundBy [] []
found_none = record { found = λ text. refl }

-- a list that is filled up at its end has the same item at every index
pub padded : {A : Type 0} (none : A) (xs : List A) (n m i : ℕ) → length xs ≤ n → get_or (take n xs ++ replicate m none) i none ≡ get_or xs i none
padded {A} none xs n m i low = rw (take_all n xs low) (after xs i)
  where
    empty : (k j : ℕ) → get_or {A = A} (replicate k none) j none ≡ none
    empty zero j = refl
    empty (suc k) zero = refl
    empty (suc k) (suc j) = empty k j

    after : (ys : List A) (j : ℕ) → get_or (ys ++ replicate m none) j none ≡ get_or ys j none
    after [] j = empty m j
    after (y ∷ ys) zero = refl
    after (y ∷ ys) (suc j) = after ys j

pub found_wider : (by_text : List (Option ℕ)) (texts : List ℕ) (n m : ℕ) → AreFoundBy by_text texts → length by_text ≤ n
    → AreFoundBy (take n by_text ++ replicate m None) texts
found_wider by_text texts n m h low = record { found = λ text. padded None by_text n m text low ∙ h.found text }

-- a new member gets the next number
pub found_more : (by_text : List (Option ℕ)) (texts : List ℕ) (text member : ℕ) → AreFoundBy by_text texts → text < length by_text → position (nat_eq text) texts ≡ None
    → member ≡ length texts → AreFoundBy (slice_set by_text text (Some member)) (texts ++ text ∷ [])
found_more by_text texts text member h lt none next = rw next (record { found = λ n. at n (nat_eq n text) refl })
  where
    at : (n : ℕ) (b : Bool) → nat_eq n text ≡ b → get_or (slice_set by_text text (Some (length texts))) n None ≡ position (nat_eq n) (texts ++ text ∷ [])
    at n true e =
        let same : n ≡ text = search (rules, e) in
        let own : nat_eq text text ≡ true = search rules in
        rw same (get_or-set_same by_text text (Some (length texts)) None lt ∙ sym (position_hit (nat_eq text) texts text none own))
    at n false e =
        let differs : n ≢ text = search (rules, e) in
        get_or-set_other by_text text n (Some (length texts)) None differs ∙ h.found n ∙ sym (position_miss (nat_eq n) texts text e)

-- the member with a text's number is the member with this text as its name
pub member_named : (texts : List (List ℕ)) (members : List ℕ) (n : ℕ) (text : List ℕ) → IsDistinct bytes_eq texts → AreNumbersOf texts members
    → slice_get texts n ≡ Some text → position (nat_eq n) members ≡ number_in (texts_at texts members) text
unfolding texts_at
member_named texts members n text d all at =
    position_from-zero (nat_eq n) members ∙ alike 0 members all
    ∙ sym (position_from-zero (λ m. bytes_eq text (get_or texts m [])) members)
    ∙ sym (number_in-map (λ m. get_or texts m []) members text)
  where
    by : (m : ℕ) → m < length texts → (b : Bool) → nat_eq n m ≡ b → (c : Bool) → bytes_eq text (get_or texts m []) ≡ c → b ≡ c
    by m lt true e true f = refl
    by m lt false e false f = refl
    by m lt true e false f =
        let same : n ≡ m = search (rules, e) in
        let is : get_or texts m [] ≡ text = ap (λ k. get_or texts k []) (sym same) ∙ get_or_from_slice_get texts n text [] at in
        let equal = (bytes_eq-Decides text (get_or texts m [])).1 (sym is) in
        absurd (cc (equal, f))
    by m lt false e true f =
        let is = same_bytes text (get_or texts m []) f in
        let there : slice_get texts m ≡ Some text = slice_get-get_or texts m [] lt ∙ ap Some (sym is) in
        let same : n ≡ m = same_Some n m (sym (number_there texts n text d at) ∙ number_there texts m text d there) in
        let equal : nat_eq n m ≡ true = search (rules, same) in
        absurd (cc (equal, e))

    alike : (i : ℕ) (ms : List ℕ) → AreNumbersOf texts ms → position_from (nat_eq n) i ms ≡ position_from (λ m. bytes_eq text (get_or texts m [])) i ms
    alike i [] h = refl
    alike i (m ∷ ms) h =
        let head = by m (All-head (λ k. k < length texts) m ms h) (nat_eq n m) refl (bytes_eq text (get_or texts m [])) refl in
        rw (head, alike (i + 1) ms (All-tail (λ k. k < length texts) m ms h)) refl

-- a name is declared exactly if its text belongs to a member
pub name_asked : (texts : List (List ℕ)) (numbers : List ℕ) (names : List (List ℕ)) (n : ℕ) (name : List ℕ) → IsDistinct bytes_eq texts → AreNames texts numbers names
    → slice_get texts n ≡ Some name → is_some (position (nat_eq n) numbers) ≡ is_declared names name
name_asked texts numbers names n name d h at =
    ap is_some (member_named texts numbers n name d h.within at ∙ ap (λ l. number_in l name) h.texts_are)

-- in an empty set no name is noted
pub noted_none : (texts : List (List ℕ)) → AreNoted texts [] []
noted_none texts = record { numbers = []; names_are = names_none texts; noted_are = λ text. refl }

-- a set of noted names stays right if texts are added to the docket's texts
pub noted_grown : (texts more : List (List ℕ)) (noted : List Bool) (names : List (List ℕ)) → StartsWith texts more → AreNoted texts noted names → AreNoted more noted names
noted_grown texts more noted names s h = record {
  numbers = h.numbers;
  names_are = names_grown texts more h.numbers names s h.names_are;
  noted_are = h.noted_are;
}

-- a set of noted names stays right if the flag of one more name is set
pub noted_more : (texts : List (List ℕ)) (noted all : List Bool) (names : List (List ℕ)) (n : ℕ) (name : List ℕ) → AreNoted texts noted names
    → slice_get texts n ≡ Some name → is_name name ≡ true → ((k : ℕ) → get_or all k false ≡ (nat_eq k n || get_or noted k false)) → AreNoted texts all (names ++ name ∷ [])
noted_more texts noted all names n name h at is more = record {
  numbers = h.numbers ++ n ∷ [];
  names_are = names_more texts h.numbers names n name h.names_are at is;
  noted_are = λ k. more k ∙ ap (λ b. nat_eq k n || b) (h.noted_are k ∙ is_some-position (nat_eq k) h.numbers)
      ∙ swapped (nat_eq k n) (list_any (nat_eq k) h.numbers) ∙ sym (list_any-append (nat_eq k) h.numbers (n ∷ [])) ∙ sym (is_some-position (nat_eq k) (h.numbers ++ n ∷ []));
}
  where
    swapped : (a b : Bool) → (a || b) ≡ (b || (a || false))
    swapped true true = refl
    swapped true false = refl
    swapped false true = refl
    swapped false false = refl

-- a name is noted exactly if it is among the noted names
pub noted_asked : (texts : List (List ℕ)) (noted : List Bool) (names : List (List ℕ)) (n : ℕ) (name : List ℕ) → IsDistinct bytes_eq texts → AreNoted texts noted names
    → slice_get texts n ≡ Some name → get_or noted n false ≡ is_declared names name
noted_asked texts noted names n name d h at = h.noted_are n ∙ name_asked texts h.numbers names n name d h.names_are at

-- setting a text's flag makes this flag true and changes no other flag
pub noted_set : (noted : List Bool) (text n : ℕ) → text < length noted → get_or (slice_set noted text true) n false ≡ (nat_eq n text || get_or noted n false)
noted_set noted text n lt = by (nat_eq n text) refl
  where
    by : (b : Bool) → nat_eq n text ≡ b → get_or (slice_set noted text true) n false ≡ (b || get_or noted n false)
    by true e = let same : n ≡ text = search (rules, e) in rw same (get_or-set_same noted text true false lt)
    by false e = let differs : n ≢ text = search (rules, e) in get_or-set_other noted text n true false differs
