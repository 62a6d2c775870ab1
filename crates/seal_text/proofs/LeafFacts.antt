-- Leaves and their hashes, one text after another.
use Rattle.std.proofs.Common.{◌≡◌, ℕ, suc, ◌+◌, ◌<◌, List, [], ◌∷◌, ◌++◌, length, map, take, get_or, refl, sym, ap, ◌∙◌, arith, zero-add}
use Rattle.std.proofs.lemmas.List.{take_more, length-map, map-append, length-take-le}
use Rattle.seal.specs.Hashes.{Leaf, leaf_hash}
use Rattle.seal_text.specs.Sealed.{leaf_of, leaves_from, hashes_of, salt_of}
use Rattle.seal_text.specs.declared.leaves.Section.{Section}

pub leaves_from-append : (secret : List ℕ) (section : Section) (i : ℕ) (xs ys : List (List ℕ)) →
    leaves_from secret section i (xs ++ ys) ≡ leaves_from secret section i xs ++ leaves_from secret section (i + length xs) ys
unfolding leaves_from
leaves_from-append secret section i [] ys = let e : i ≡ i + 0 = omega arith in ap (λ k. leaves_from secret section k ys) e
leaves_from-append secret section i (x ∷ xs) ys =
    let e : i + 1 + length xs ≡ i + length (x ∷ xs) = omega arith in
    ap (λ (rest : List Leaf). leaf_of secret section i x ∷ rest)
    (leaves_from-append secret section (i + 1) xs ys ∙ ap (λ k. leaves_from secret section (i + 1) xs ++ leaves_from secret section k ys) e)

pub length-leaves_from : (secret : List ℕ) (section : Section) (i : ℕ) (texts : List (List ℕ)) → length (leaves_from secret section i texts) ≡ length texts
unfolding leaves_from
length-leaves_from secret section i [] = refl
length-leaves_from secret section i (x ∷ xs) = ap suc (length-leaves_from secret section (i + 1) xs)

-- there is one hash for each text
pub length-hashes_of : (secret : List ℕ) (section : Section) (texts : List (List ℕ)) → length (hashes_of secret section texts) ≡ length texts
length-hashes_of secret section texts = length-map (leaves_from secret section 0 texts) leaf_hash ∙ length-leaves_from secret section 0 texts

no_leaf_more : (secret : List ℕ) (section : Section) (i : ℕ) (text : List ℕ) → leaves_from secret section i (text ∷ []) ≡ leaf_of secret section i text ∷ []
unfolding leaves_from
no_leaf_more secret section i text = refl

pub no_hashes : (secret : List ℕ) (section : Section) → hashes_of secret section [] ≡ []
unfolding leaves_from
no_hashes secret section = refl

-- the hashes of the leaves of the first i + 1 texts are the hashes for the first i texts, followed
-- by the hash of text i's leaf
pub hashes_next : (secret : List ℕ) (section : Section) (texts : List (List ℕ)) (i : ℕ) → i < length texts →
    hashes_of secret section (take (i + 1) texts) ≡ hashes_of secret section (take i texts) ++ leaf_hash (leaf_of secret section i (get_or texts i [])) ∷ []
hashes_next secret section texts i within =
    let text = get_or texts i [] in
    let size : 0 + length (take i texts) ≡ i = zero-add (length (take i texts)) ∙ length-take-le i texts (omega arith) in
    ap (λ (ts : List (List ℕ)). hashes_of secret section ts) (take_more texts i [] within)
    ∙ ap (map leaf_hash) (leaves_from-append secret section 0 (take i texts) (text ∷ []) ∙ ap (λ k. leaves_from secret section 0 (take i texts) ++ leaves_from secret section k (text ∷ [])) size
    ∙ ap (λ (t : List Leaf). leaves_from secret section 0 (take i texts) ++ t) (no_leaf_more secret section i text))
    ∙ map-append leaf_hash (leaves_from secret section 0 (take i texts)) (leaf_of secret section i text ∷ [])

-- adding the hash of text i's leaf to the hashes for the first i texts gives the hashes for the
-- first i + 1
pub hash_pushed : (secret : List ℕ) (section : Section) (texts : List (List ℕ)) (i : ℕ) (hash salt text : List ℕ) (old new : List (List ℕ)) → i < length texts
    → old ≡ hashes_of secret section (take i texts) → new ≡ old ++ hash ∷ [] → hash ≡ leaf_hash (record { salt = salt; text = text }) → salt ≡ salt_of secret section i
    → text ≡ get_or texts i [] → new ≡ hashes_of secret section (take (i + 1) texts)
hash_pushed secret section texts i hash salt text old new within o n h s t =
    n ∙ ap (λ (hs : List (List ℕ)). hs ++ hash ∷ []) o ∙ rw (h, s, t) (sym (hashes_next secret section texts i within))
