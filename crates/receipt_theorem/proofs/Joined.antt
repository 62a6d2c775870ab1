-- A leaf that opens a published root is a leaf of the tree, or hashed bytes collide.
use Rattle.std.proofs.Common.{◌≡◌, ◌⊎◌, ℕ, ◌<◌, ◌^◌, ◌&&◌, ◌==◌, Bool, true, false, List, [], ◌∷◌, length, map, Option, Some, None, refl, sym, ap, ◌∙◌, arith, inl, inr}
use Rattle.std.specs.Prelude.{Result, Ok, Err, bytes_eq, option_map, if◌then◌else◌, slice_get}
use Rattle.std.specs.List.{All, list_all}
use Rattle.std.proofs.lemmas.Option.{slice_get-map}
use Rattle.std.proofs.lemmas.Slice.Eq.{bytes_eq-Decides}
use Rattle.hex.specs.Hex.{decode_sized}
use Rattle.hex.specs.declared.error.FromHexError.{FromHexError}
use Rattle.hex.proofs.HexLemmas.{decode_sized-ok, decode_sized-twice, decode_of-ok}
use Rattle.seal.specs.Hashes.{Leaf, leaf_hash, IsSalted}
use Rattle.seal.specs.Tree.{climb, opened, seal, seal_hash}
use Rattle.seal.specs.SealLaws.{IsItsLeaf}
use Rattle.seal.proofs.Counted.{counted}
use Rattle.receipt_check.specs.Rows.{Cells}
use Rattle.receipt_check.specs.Faults.{cons_if, digest_of, digests_of, digests_wrong, if_ok, is_root, is_small, opening_wrong}
use Rattle.receipt_check.specs.declared.wrong.Wrong.{Wrong}
use Rattle.receipt_check.specs.declared.wrong.Wrong.TheVariants as wrong
use Rattle.receipt_theorem.specs.Laws.{CollidesAt}

-- 64 hexadecimal digits stand for 32 bytes
digest_size : (digits digest : List ℕ) → digest_of digits ≡ Some digest → length digest ≡ 32
unfolding digest_of
digest_size digits digest h = by_small (list_all is_small digits) h
  where
    by_ok : (d : Result (List ℕ) FromHexError) → decode_sized digits 32 ≡ d → if_ok d ≡ Some digest → length digest ≡ 32
    by_ok (Ok bytes) e k =
        let size = decode_sized-ok digits 32 bytes e in
        let same : bytes ≡ digest = cc k in
        let twice = decode_of-ok digits bytes (sym (decode_sized-twice digits 32 size) ∙ e) in
        let half : length bytes ≡ 32 = omega (arith, size, twice.2) in
        ap length (sym same) ∙ half
    by_ok (Err fault) e k = cc k

    by_small : (b : Bool) → (if b then if_ok (decode_sized digits 32) else None) ≡ Some digest → length digest ≡ 32
    by_small true k = by_ok (decode_sized digits 32) refl k
    by_small false k = cc k

first_digest : (fields : Cells) (salt : List ℕ) (path : List (List ℕ)) → digests_of fields ≡ Some (salt ∷ path) → length salt ≡ 32
first_digest [] salt path h = cc h
first_digest (field ∷ rest) salt path h = by_first (digest_of field) refl h
  where
    by_rest : (digest : List ℕ) (o : Option (List (List ℕ))) → digest_of field ≡ Some digest → cons_if (Some digest) o ≡ Some (salt ∷ path) → length salt ≡ 32
    by_rest digest None e k = cc k
    by_rest digest (Some more) e k = let same : digest ≡ salt = cc k in rw (← same) (digest_size field digest e)

    by_first : (o : Option (List ℕ)) → digest_of field ≡ o → cons_if o (digests_of rest) ≡ Some (salt ∷ path) → length salt ≡ 32
    by_first None e k = cc k
    by_first (Some digest) e k = by_rest digest (digests_of rest) e k

-- the fields of an opening without a fault are a salt and a path, by which the leaf with this text
-- opens the root
record Opens (root : List ℕ) (count index : ℕ) (fields : Cells) (text : List ℕ) : Type 0 where
  salt : List ℕ
  path : List (List ℕ)
  top : List ℕ
  shown : digests_of fields ≡ Some (salt ∷ path)
  climbs : climb index count (leaf_hash (record { salt = salt; text = text })) path ≡ Some top
  root_is : seal_hash count top ≡ root

opens : (root : List ℕ) (count index : ℕ) (fields : Cells) (text : List ℕ) → opening_wrong root count index fields text ≡ None → Opens root count index fields text
unfolding opening_wrong
opens root count index fields text h = by_digests (digests_of fields) refl h
  where
    by_climb : (salt : List ℕ) (path : List (List ℕ)) (o : Option (List ℕ)) → digests_of fields ≡ Some (salt ∷ path)
        → climb index count (leaf_hash (record { salt = salt; text = text })) path ≡ o
        → (if is_root root (option_map (seal_hash count) o) then None else Some wrong.Opening) ≡ None → Opens root count index fields text
    by_climb salt path None d c k = cc k
    by_climb salt path (Some top) d c k = record {
      salt = salt;
      path = path;
      top = top;
      shown = d;
      climbs = c;
      root_is = (bytes_eq-Decides (seal_hash count top) root).0 (by_root (bytes_eq (seal_hash count top) root) k);
    }
      where
        by_root : (b : Bool) → (if b then None else Some wrong.Opening) ≡ None → b ≡ true
        by_root true e = refl
        by_root false e = cc e

    by_digests : (o : Option (List (List ℕ))) → digests_of fields ≡ o → digests_wrong root count index text o ≡ None → Opens root count index fields text
    by_digests None e k = cc k
    by_digests (Some []) e k = cc k
    by_digests (Some (salt ∷ path)) e k = by_climb salt path (climb index count (leaf_hash (record { salt = salt; text = text })) path) e refl k

-- the text of a leaf
abbrev pub text_in : Leaf → List ℕ
text_in leaf = leaf.text

-- there are count leaves, and the leaf at place index has this text
pub record IsTextAt (leaves : List Leaf) (count index : ℕ) (text : List ℕ) : Type 0 where
  pub count_is : count ≡ length leaves
  pub text_is : slice_get (map text_in leaves) index ≡ Some text

pub sealed_text : (leaves : List Leaf) (count index : ℕ) (fields : Cells) (text : List ℕ) → All IsSalted leaves → length leaves < 2 ^ 64 → count < 2 ^ 64
    → opening_wrong (seal leaves) count index fields text ≡ None → IsTextAt leaves count index text ⊎ CollidesAt leaves count index fields text
sealed_text leaves count index fields text salted few counts h =
    let o = opens (seal leaves) count index fields text h in
    let mine : Leaf = record { salt = o.salt; text = text } in
    elim (counted leaves index count mine o.path o.top salted (first_digest fields o.salt o.path o.shown) few counts o.climbs o.root_is) [
      | inl found ↦ inl (record { count_is = found.count_is; text_is = slice_get-map text_in leaves index ∙ ap (option_map text_in) found.leaf_is })
      | inr collide ↦ inr (record { salt = o.salt; path = o.path; top = o.top; shown = o.shown; climbs = o.climbs; collide = collide })
    ]
