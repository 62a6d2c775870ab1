-- Texts that are stored once and used by their numbers.
use Rattle.std.proofs.Common.{◌≡◌, ◌≤◌, ◌<◌, ℕ, suc, List, [], ◌∷◌, ◌++◌, Bool, true, false, length, get_or, map, take, arith, sym, ◌∙◌, refl, ap, Some, inl, inr}
use Rattle.std.specs.Prelude.{slice_get, bytes_eq, if◌then◌else◌}
use Rattle.std.specs.List.{list_all}
use Rattle.std.proofs.lemmas.List.{map_push, length-map, get_or-map, get_or-take, take_all, take-take, length-take, take-append-le}
use Rattle.std.proofs.lemmas.List.Elements.{All-nil, All-push, All-weaker}
use Rattle.std.proofs.lemmas.List.Folds.{list_all-append}
use Rattle.std.proofs.lemmas.List.Quantifiers.{position-Some}
use Rattle.std.proofs.lemmas.Option.{slice_get-get_or, get_or_from_slice_get, slice_get_within, same_Some}
use Rattle.docket_names.specs.Words.{is_name}
use Rattle.docket_names.specs.Texts.{number_in, texts_at, AreNumbersOf, AreNames, StartsWith, IsJoined}
use Rattle.docket_names.proofs.NameFacts.{and_both, name_at, same_bytes}

-- if a text has number n, then text n is this text
pub number_found : (texts : List (List ℕ)) (text : List ℕ) (n : ℕ) → number_in texts text ≡ Some n → slice_get texts n ≡ Some text
unfolding number_in
number_found texts text n e =
    let h = position-Some (bytes_eq text) texts n [] e in
    slice_get-get_or texts n [] h.0 ∙ ap Some (sym (same_bytes text (get_or texts n []) h.1))

-- if text n equals a text byte by byte, then text n is this text
pub key_found : (texts : List (List ℕ)) (key text : List ℕ) (n : ℕ) → slice_get texts n ≡ Some key → bytes_eq text key ≡ true → slice_get texts n ≡ Some text
key_found texts key text n at same = at ∙ ap Some (sym (same_bytes text key same))

-- a list of numbers stands for as many texts as it has numbers
pub length-texts_at : (texts : List (List ℕ)) (numbers : List ℕ) → length (texts_at texts numbers) ≡ length numbers
unfolding texts_at
length-texts_at texts numbers = length-map numbers (λ n. get_or texts n [])

-- an index within the texts that numbers stand for is an index within the numbers
pub place_of_number : (texts : List (List ℕ)) (numbers : List ℕ) (k : ℕ) → k < length (texts_at texts numbers) → k < length numbers
place_of_number texts numbers k h = let size = length-texts_at texts numbers in omega arith

-- the text at an index is the text of the number at this index
pub number_text : (texts : List (List ℕ)) (numbers : List ℕ) (k : ℕ) → k < length (texts_at texts numbers) → AreNumbersOf texts numbers
    → slice_get texts (get_or numbers k 0) ≡ Some (get_or (texts_at texts numbers) k [])
unfolding texts_at
number_text texts numbers k h all =
    let within = place_of_number texts numbers k h in
    let there = get_or-map (λ n. get_or texts n []) numbers k 0 [] within in
    slice_get-get_or texts (get_or numbers k 0) [] (all k 0 within) ∙ ap Some (sym there)

-- after texts were added, the old numbers still stand for the same texts
same_texts : (texts more : List (List ℕ)) (numbers : List ℕ) → StartsWith texts more → AreNumbersOf texts numbers → map (λ n. get_or more n []) numbers ≡ map (λ n. get_or texts n []) numbers
same_texts texts more [] s h = refl
same_texts texts more (n ∷ ns) s h =
    let head : get_or more n [] ≡ get_or texts n [] = sym (get_or-take (length texts) more n [] (h 0 0 (omega arith))) ∙ ap (λ l. get_or l n []) s in
    let tail = same_texts texts more ns s (λ i d k. h (suc i) d (omega arith)) in
    λ i. head i ∷ tail i

-- one more number stands for one more text at the end
pub texts_at-push : (texts more : List (List ℕ)) (numbers : List ℕ) (n : ℕ) (text : List ℕ) → StartsWith texts more → AreNumbersOf texts numbers → slice_get more n ≡ Some text
    → texts_at more (numbers ++ n ∷ []) ≡ texts_at texts numbers ++ text ∷ []
unfolding texts_at
texts_at-push texts more numbers n text s h at =
    map_push (λ m. get_or more m []) numbers n ∙ ap (λ l. l ++ get_or more n [] ∷ []) (same_texts texts more numbers s h)
    ∙ ap (λ t. map (λ m. get_or texts m []) numbers ++ t ∷ []) (get_or_from_slice_get more n text [] at)

-- a list of texts begins with itself
pub starts_same : (texts : List (List ℕ)) → StartsWith texts texts
starts_same texts = take_all (length texts) texts (omega arith)

pub starts_length : (texts more : List (List ℕ)) → StartsWith texts more → length texts ≤ length more
starts_length texts more s =
    let size = ap length s in
    let front = length-take (length texts) more in
    omega arith

pub starts_more : (texts more most : List (List ℕ)) → StartsWith texts more → StartsWith more most → StartsWith texts most
starts_more texts more most s h =
    sym (take-take (length texts) (length more) most (starts_length texts more s)) ∙ ap (λ (l : List (List ℕ)). take (length texts) l) h ∙ s

-- a list of texts to which a new text may be added begins with the old texts
pub starts_insert : (texts : List (List ℕ)) (text : List ℕ) (b : Bool) → StartsWith texts (if b then texts else texts ++ text ∷ [])
starts_insert texts text true = starts_same texts
starts_insert texts text false = take-append-le (length texts) texts (text ∷ []) (omega arith) ∙ starts_same texts

pub names_insert : (texts : List (List ℕ)) (text : List ℕ) (b : Bool) → list_all is_name texts ≡ true → is_name text ≡ true
    → list_all is_name (if b then texts else texts ++ text ∷ []) ≡ true
names_insert texts text true h is = h
names_insert texts text false h is =
    list_all-append is_name texts (text ∷ []) ∙ and_both (list_all is_name texts) (list_all is_name (text ∷ [])) h (and_both (is_name text) true is refl)

pub joined_insert : (texts more : List (List ℕ)) (text : List ℕ) (b : Bool) → more ≡ (if b then texts else texts ++ text ∷ []) → IsJoined texts more text
joined_insert texts more text true e = inl e
joined_insert texts more text false e = inr e

-- after texts were added, the old numbers still belong to texts
pub numbers_kept : (texts more : List (List ℕ)) (numbers : List ℕ) → StartsWith texts more → AreNumbersOf texts numbers → AreNumbersOf more numbers
numbers_kept texts more numbers s h =
    let size = starts_length texts more s in
    All-weaker (λ n. n < length texts) (λ n. n < length more) (λ n lt. omega arith) numbers h

pub texts_kept : (texts more : List (List ℕ)) (numbers : List ℕ) → StartsWith texts more → AreNumbersOf texts numbers → texts_at more numbers ≡ texts_at texts numbers
unfolding texts_at
texts_kept texts more numbers s h = same_texts texts more numbers s h

-- after texts were added, the numbers stand for the same names; one more number adds one more name
pub names_grown : (texts more : List (List ℕ)) (numbers : List ℕ) (names : List (List ℕ)) → StartsWith texts more → AreNames texts numbers names → AreNames more numbers names
names_grown texts more numbers names s h = record {
  within = numbers_kept texts more numbers s h.within;
  texts_are = texts_kept texts more numbers s h.within ∙ h.texts_are;
  named = h.named;
}

pub names_more : (texts : List (List ℕ)) (numbers : List ℕ) (names : List (List ℕ)) (n : ℕ) (name : List ℕ) → AreNames texts numbers names → slice_get texts n ≡ Some name
    → is_name name ≡ true → AreNames texts (numbers ++ n ∷ []) (names ++ name ∷ [])
names_more texts numbers names n name h at is = record {
  within = All-push (λ m. m < length texts) numbers n h.within (slice_get_within texts n name at);
  texts_are = texts_at-push texts texts numbers n name (starts_same texts) h.within at ∙ ap (λ l. l ++ name ∷ []) h.texts_are;
  named = rw (list_all-append is_name names (name ∷ []), h.named, is) refl;
}

pub names_none : (texts : List (List ℕ)) → AreNames texts [] []
unfolding texts_at
names_none texts = record { within = All-nil (λ n. n < length texts); texts_are = refl; named = refl }

-- the name of member k is the text of the number at index k
pub name_there : (texts : List (List ℕ)) (members : List ℕ) (k : ℕ) (name : List ℕ) → k < length members → AreNames texts members (texts_at texts members)
    → slice_get texts (get_or members k 0) ≡ Some name → (slice_get (texts_at texts members) k ≡ Some name) × (is_name name ≡ true)
name_there texts members k name lt h at =
    let size = length-texts_at texts members in
    let within : k < length (texts_at texts members) = omega arith in
    let own = number_text texts members k within h.within in
    let is : get_or (texts_at texts members) k [] ≡ name = same_Some (get_or (texts_at texts members) k []) name (sym own ∙ at) in
    let there = slice_get-get_or (texts_at texts members) k [] within ∙ ap Some is in
    (there, name_at (texts_at texts members) k name h.named there)

-- a list of numbers stands for as many names as it has numbers
pub names_length : (texts : List (List ℕ)) (numbers : List ℕ) (names : List (List ℕ)) → AreNames texts numbers names → length numbers ≡ length names
names_length texts numbers names h = sym (length-texts_at texts numbers) ∙ ap length h.texts_are
