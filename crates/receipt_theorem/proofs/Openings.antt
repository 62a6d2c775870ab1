-- The opening that is written for a leaf is read back, and opens the published root of its tree.
use Rattle.std.proofs.Common.{◌≡◌, ℕ, zero, suc, ◌+◌, ◌-◌, ◌*◌, ◌/◌, ◌%◌, ◌==◌, ◌<◌, ◌≤◌, ◌^◌, Bool, true, false, List, [], ◌∷◌, length, map, get_or, slice_get, slice_index, Option, Some, None, refl, sym, ap, ◌∙◌, arith, subst, inl, inr, nat_lt}
use Rattle.std.specs.Prelude.{bytes_eq, if◌then◌else◌, Result, Ok, Err}
use Rattle.std.specs.List.{All, list_all, cons_option}
use Rattle.std.proofs.Math.Nat.{pow-suc}
use Rattle.std.proofs.lemmas.Bool.{cases_lt}
use Rattle.std.proofs.lemmas.List.Elements.{All-nil, All-cons, All-head, All-tail}
use Rattle.std.proofs.lemmas.Option.{slice_get-get_or, slice_get_within}
use Rattle.std.proofs.lemmas.Slice.Eq.{bytes_eq-Decides}
use Rattle.sha2.specs.Sha256.{sha256}
use Rattle.sha2.proofs.Facts256.{length-sha256}
use Rattle.hex.specs.Hex.{IsBytes, decode_sized, encode_lower, encode_with, lower_digits}
use Rattle.hex.proofs.HexLemmas.{decode_sized-encode_lower}
use Rattle.docket_names.proofs.WordFacts.{list_all_true_at}
use Rattle.seal.specs.Hashes.{AreBytes, leaf_hash, node}
use Rattle.seal.specs.Tree.{opened, pair_up, path_from, path_of, sibling}
use Rattle.seal.proofs.HashedBytes.{digest_is_bytes}
use Rattle.seal.proofs.Parents.{length-pair_up}
use Rattle.receipt_check.specs.Rows.{Cells}
use Rattle.receipt_check.specs.Faults.{cons_if, digest_of, digests_of, is_small, opening_wrong}

-- the list has 32 members, each of which is a byte
pub record IsDigest (digest : List ℕ) : Type 0 where
  pub size : length digest ≡ 32
  pub bytes : AreBytes digest

pub hash_digest : (bytes : List ℕ) → IsDigest (sha256 bytes)
hash_digest bytes = record { size = length-sha256 bytes; bytes = digest_is_bytes bytes }

-- Digits of digests.

small : (t xs : List ℕ) → ((i : ℕ) → i < 16 → is_small (slice_index t i) ≡ true) → AreBytes xs → list_all is_small (encode_with t xs) ≡ true
unfolding encode_with
small t [] each h = refl
small t (x ∷ xs) each h =
    let byte : x < 256 = All-head (λ b. b < 256) x xs h in
    rw (each (x / 16) (omega (arith, byte)), each (x % 16) (omega arith), small t xs each (All-tail (λ b. b < 256) x xs h)) refl

lower : (i : ℕ) → i < 16 → is_small (slice_index lower_digits i) ≡ true
lower i l = list_all_true_at is_small lower_digits i 0 l refl

indexed : (xs : List ℕ) → AreBytes xs → IsBytes xs
indexed [] h i = omega arith
indexed (x ∷ xs) h zero = All-head (λ b. b < 256) x xs h
indexed (x ∷ xs) h (suc i) = indexed xs (All-tail (λ b. b < 256) x xs h) i

digest_back : (digest : List ℕ) → IsDigest digest → digest_of (encode_lower digest) ≡ Some digest
unfolding digest_of
digest_back digest h =
    rw (small lower_digits digest lower h.bytes, decode_sized-encode_lower digest 32 h.size (indexed digest h.bytes)) refl

digests_back : (digests : List (List ℕ)) → All IsDigest digests → digests_of (map encode_lower digests) ≡ Some digests
digests_back [] h = refl
digests_back (digest ∷ rest) h = rw (digest_back digest (All-head IsDigest digest rest h), digests_back rest (All-tail IsDigest digest rest h)) refl

-- Paths.

paired : (hashes : List (List ℕ)) → All IsDigest hashes → All IsDigest (pair_up hashes)
paired [] h = h
paired (x ∷ []) h = h
paired (x ∷ y ∷ rest) h = All-cons IsDigest (node x y) (pair_up rest) (hash_digest _) (paired rest (All-tail IsDigest y rest (All-tail IsDigest x (y ∷ rest) h)))

-- if all hashes are digests, the hash at place i (if there is one) followed by other digests is a
-- list of digests
with_next : (hashes : List (List ℕ)) (i : ℕ) (rest : List (List ℕ)) → All IsDigest hashes → All IsDigest rest → All IsDigest (cons_option (slice_get hashes i) rest)
with_next hashes i rest h all = by_next (slice_get hashes i) refl
  where
    by_next : (o : Option (List ℕ)) → slice_get hashes i ≡ o → All IsDigest (cons_option o rest)
    by_next None e = all
    by_next (Some x) e =
        let within = slice_get_within hashes i x e in
        let same : Some (get_or hashes i x) ≡ Some x = sym (slice_get-get_or hashes i x within) ∙ e in
        let it : get_or hashes i x ≡ x = cc same in
        All-cons IsDigest x rest (subst IsDigest it (h i x within)) all

pub path_digests : (levels i : ℕ) (hashes : List (List ℕ)) → All IsDigest hashes → All IsDigest (path_from levels i hashes)
path_digests zero i hashes h = All-nil IsDigest
path_digests (suc levels) i hashes h = with_next hashes _ (path_from levels (i / 2) (pair_up hashes)) h (path_digests levels (i / 2) (pair_up hashes) (paired hashes h))

-- the fields of a leaf's opening: the digits of its salt, and those of its path
abbrev pub opening_fields : List ℕ → List (List ℕ) → Cells
opening_fields salt path = map encode_lower (salt ∷ path)

-- the opening fields of a leaf whose path leads to a root have no fault under this root
pub opening_good : (root salt text : List ℕ) (count index : ℕ) (hashes : List (List ℕ)) → IsDigest salt → All IsDigest hashes
    → opened index count (leaf_hash (record { salt = salt; text = text })) (path_of index hashes) ≡ Some root
    → opening_wrong root count index (opening_fields salt (path_of index hashes)) text ≡ None
unfolding opening_wrong
opening_good root salt text count index hashes s h up =
    let path = path_of index hashes in
    let back : digests_of (opening_fields salt path) ≡ Some (salt ∷ path) =
    digests_back (salt ∷ path) (All-cons IsDigest salt path s (path_digests (length hashes) index hashes h)) in
    rw (back, up, (bytes_eq-Decides root root).1 refl) refl
