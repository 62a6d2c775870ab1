-- Why a published root with the number of leaves binds this number.
use Rattle.std.proofs.Common.{◌≡◌, ℕ, ◌<◌, ◌^◌, List, [], ◌++◌, length, get_or, slice_get, Some, None, refl, sym, ap, ◌∙◌, subst, inl, inr}
use Rattle.std.specs.Int.{w64, to_be_bytes, from_be_bytes}
use Rattle.std.proofs.lemmas.Nat.{from_be_bytes-to_be_bytes_8}
use Rattle.std.proofs.lemmas.Option.{slice_get-get_or}
use Rattle.std.proofs.lemmas.Bool.{cases_lt}
use Rattle.seal.specs.Hashes.{leaf_hash, Collide}
use Rattle.seal.specs.Tree.{root, climb, path_of, hashed, leaf_hashes, seal_input}
use Rattle.seal.specs.SealLaws.{ReceiptLaw, OneDocketLaw}
use Rattle.seal.proofs.Lists.{same_parts, same_or_collide, Collide-cons}
use Rattle.seal.proofs.Steps.{no_place}
use Rattle.seal.proofs.OneDocket.{receipt, one_docket}

same_count : (n m : ℕ) → n < 2 ^ 64 → m < 2 ^ 64 → to_be_bytes w64 n ≡ to_be_bytes w64 m → n ≡ m
same_count n m l k e = sym (from_be_bytes-to_be_bytes_8 n l) ∙ ap (from_be_bytes w64) e ∙ from_be_bytes-to_be_bytes_8 m k

parts : (n m : ℕ) (a b : List ℕ) → n < 2 ^ 64 → m < 2 ^ 64 → seal_input n a ≡ seal_input m b → (n ≡ m) × (a ≡ b)
parts n m a b l k e =
    let whole : to_be_bytes w64 n ++ a ≡ to_be_bytes w64 m ++ b = cc in
    let both = same_parts (to_be_bytes w64 n) a (to_be_bytes w64 m) b refl whole in
    (same_count n m l k both.0, both.1)

in_tree : (index count : ℕ) (hash top : List ℕ) (path : List (List ℕ)) → climb index count hash path ≡ Some top → index < count
in_tree index count hash top path e = elim (cases_lt index count) [
  | inl l ↦ l
  | inr past ↦ absurd (let gone : climb index count hash path ≡ None = no_place index count hash path past in cc)
]

pub counted : ReceiptLaw
counted leaves index count mine path top a salted l k up e =
    elim (same_or_collide (seal_input count top) (seal_input (length leaves) (root (leaf_hashes leaves))) _ _ e) [
      | inl same ↦
          let both = parts count (length leaves) top (root (leaf_hashes leaves)) k l same in
          let within : index < length leaves = subst (λ n. index < n) both.0 (in_tree index count (leaf_hash mine) top path up) in
          let leaf = get_or leaves index mine in
          let there : slice_get leaves index ≡ Some (get_or leaves index mine) = slice_get-get_or leaves index mine within in
          let climbs : climb index (length leaves) (leaf_hash mine) path ≡ Some (root (leaf_hashes leaves)) =
          subst (λ n. climb index n (leaf_hash mine) path ≡ Some (root (leaf_hashes leaves))) both.0 (up ∙ ap Some both.1) in
          elim (receipt leaves index (get_or leaves index mine) mine path there (a index mine within) salted climbs) [
            | inl mine_is ↦ inl (record { count_is = both.0; leaf_is = there ∙ ap Some (sym mine_is) })
            | inr found ↦ inr (Collide-cons _ _ _ _ (subst (λ n. Collide (hashed index n mine path)
                (hashed index (length leaves) (get_or leaves index mine) (path_of index (leaf_hashes leaves)))) (sym both.0) found))
          ]
      | inr found ↦ inr found
    ]

pub one_seal : OneDocketLaw
one_seal leaves leaves' a a' l l' e =
    elim (same_or_collide (seal_input (length leaves) (root (leaf_hashes leaves))) (seal_input (length leaves') (root (leaf_hashes leaves'))) [] [] e) [
      | inl same ↦
          let both = parts (length leaves) (length leaves') (root (leaf_hashes leaves)) (root (leaf_hashes leaves')) l l' same in
          elim (one_docket leaves leaves' a a' both.0 both.1) [ inl one ↦ inl one | inr found ↦ inr (inl found) ]
      | inr found ↦ inr (inr found)
    ]
