-- A receipt that is written is a good receipt, if nothing is wrong with its content.
use Rattle.std.proofs.Common.{◌≡◌, ℕ, ◌+◌, ◌*◌, ◌<◌, ◌≤◌, ◌^◌, Bool, true, false, List, [], ◌∷◌, ◌++◌, length, map, Option, Some, None, option_map, refl, sym, ap, ◌∙◌, arith, subst}
use Rattle.std.specs.Prelude.{codes, decimal}
use Rattle.std.specs.List.{All}
use Rattle.std.proofs.lemmas.List.{length-map}
use Rattle.std.proofs.lemmas.List.Elements.{All-cons, All-nil}
use Rattle.hex.specs.Hex.{encode_lower}
use Rattle.seal.specs.Tree.{path_of}
use Rattle.seal_text.specs.declared.leaves.Section.{Section}
use Rattle.seal_text.specs.declared.leaves.Section.TheVariants.{Lists, Outcome}
use Rattle.seal_text.specs.Sealed.{hashes_of, salt_of}
use Rattle.receipt_check.specs.Rows.{Cells, line, lines, plain_text, without_mark}
use Rattle.receipt_check.specs.Receipt.{Receipt, first_row, letter_of, lists_text, part_rows, receipt_text, result_part, result_text}
use Rattle.receipt_check.specs.Faults.{longest, value_fault}
use Rattle.receipt_check.specs.Good.{IsGoodReceipt, ListIsShown}
use Rattle.receipt_check.specs.declared.kind.Kind.{Kind}
use Rattle.receipt_check.specs.declared.kind.Kind.TheVariants.{Programme, Resident}
use Rattle.seal_text.specs.Sealed.{published, receipt_of}
use Rattle.receipt_theorem.proofs.Bodies.{IsAt, body_is, digests, second_at}
use Rattle.receipt_theorem.proofs.Clean.{IsClean, clean_both, clean_line, clean_more, clean_none, clean_row, hex_short, short_number, text_kept}
use Rattle.seal_text.proofs.LeafFacts.{length-hashes_of}
use Rattle.receipt_theorem.proofs.Leaves.{digests_plain, hex_plain}
use Rattle.receipt_theorem.proofs.Openings.{IsDigest, hash_digest, opening_fields, path_digests}
use Rattle.receipt_theorem.proofs.Rows.{ArePlain, IsPlain, IsShortName}
use Rattle.receipt_theorem.proofs.Sizes.{AreShort, path_short}

-- the rows of a tree's part in a receipt are clean and have at most 1562 bytes
part_clean : (word : List ℕ) (root : List ℕ) (count index : ℕ) (salt : List ℕ) (path : List (List ℕ)) → IsShortName word → IsDigest root → count < 1000000000 → index < 1000000000
    → IsDigest salt → All IsDigest path → length path ≤ 17 → IsClean 1562 (lines (part_rows word root (decimal count) (decimal index) (opening_fields salt path)))
part_clean word root count index salt path w r c i s p few =
    clean_both 196 1366 _ _
    (clean_line 64 (word ∷ decimal count ∷ encode_lower root ∷ []) (w.plain, ((short_number count c).plain, (hex_plain root r, tt)))
    (All-cons (λ f. length f ≤ 64) word (decimal count ∷ map encode_lower (root ∷ [])) (let x = w.short in omega (arith, x))
    (All-cons (λ f. length f ≤ 64) (decimal count) (map encode_lower (root ∷ [])) (let x = (short_number count c).short in omega (arith, x)) (hex_short (root ∷ []) (All-cons IsDigest root [] r (All-nil IsDigest))))))
    (clean_both 1366 0 _ []
    (clean_more _ 1366 _ (let size = length-map path encode_lower in omega (arith, size, few))
    (clean_line 64 (codes "opens" ∷ word ∷ decimal index ∷ opening_fields salt path)
    (refl, (w.plain, ((short_number index i).plain, digests_plain (salt ∷ path) (All-cons IsDigest salt path s p))))
    (All-cons (λ f. length f ≤ 64) (codes "opens") (word ∷ decimal index ∷ opening_fields salt path) (omega arith)
    (All-cons (λ f. length f ≤ 64) word (decimal index ∷ opening_fields salt path) (let x = w.short in omega (arith, x))
    (All-cons (λ f. length f ≤ 64) (decimal index) (opening_fields salt path) (let x = (short_number index i).short in omega (arith, x))
    (hex_short (salt ∷ path) (All-cons IsDigest salt path s p)))))))
    clean_none)

module _ (secret : List ℕ) (lists : List (List ℕ)) (results : Option (List (List ℕ))) (i : ℕ) (c : Receipt) (at : IsAt secret lists results i c) (here : i < length lists) (few : length lists ≤ 110000) where
  tree_clean : (section : Section) (texts : List (List ℕ)) (word : List ℕ) (fields : Cells) → IsShortName word → length texts ≡ length lists
      → fields ≡ opening_fields (salt_of secret section i) (path_of i (hashes_of secret section texts))
      → IsClean 1562 (lines (part_rows word (published secret section texts) c.count c.index fields))
  tree_clean section texts word fields w each opening =
      let size = length-hashes_of secret section texts in
      let made = part_clean word (published secret section texts) (length lists) i (salt_of secret section i) (path_of i (hashes_of secret section texts)) w (hash_digest _) at.few (omega (arith, here, few)) (hash_digest _)
      (path_digests (length (hashes_of secret section texts)) i (hashes_of secret section texts) (digests secret section texts))
      (path_short (length (hashes_of secret section texts)) 17 i (hashes_of secret section texts) (omega (arith, size, each, here)) (omega (arith, size, each, few))) in
      subst (λ (n : List ℕ). IsClean 1562 (lines (part_rows word (published secret section texts) n c.index fields))) (sym at.count_is)
      (subst (λ (n : List ℕ). IsClean 1562 (lines (part_rows word (published secret section texts) (decimal (length lists)) n fields))) (sym at.index_is)
      (subst (λ (f : Cells). IsClean 1562 (lines (part_rows word (published secret section texts) (decimal (length lists)) (decimal i) f))) (sym opening) made))

  module _ (name : IsShortName c.name) (before : IsClean 3345000 (lists_text c)) (after : (texts : List (List ℕ)) → results ≡ Some texts → IsClean 2321000 (result_text c)) where
    result_clean : (o : Option (List (List ℕ))) → results ≡ o → IsClean 2322562 (result_part (option_map (published secret Outcome) o) c)
    result_clean None e = clean_more 0 2322562 [] (omega arith) clean_none
    result_clean (Some texts) e =
        clean_both 1562 2321000 _ _ (tree_clean Outcome texts (codes "result") c.second (record { plain = refl; short = omega arith }) (at.each texts e) (at.second_is ∙ ap (λ (o : Option (List (List ℕ))). second_at secret o i) e)) (after texts e)

    whole_clean : IsClean 5669257 (receipt_text (published secret Lists lists) (option_map (published secret Outcome) results) c)
    unfolding receipt_text
    whole_clean =
        clean_both 1695 5667562 _ _
        (clean_both 133 1562 (line (first_row c)) _
        (clean_row (first_row c) (record { plain = refl; short = omega arith }, (record { plain = refl; short = omega arith }, (letter_short c.kind, (name, tt)))))
        (tree_clean Lists lists (codes "lists") c.opening (record { plain = refl; short = omega arith }) refl at.opening_is))
        (clean_both 3345000 2322562 _ _ before (result_clean results refl))
      where
        letter_short : (kind : Kind) → IsShortName (letter_of kind)
        letter_short Programme = record { plain = refl; short = omega arith }
        letter_short Resident = record { plain = refl; short = omega arith }

    unmarked : without_mark (receipt_text (published secret Lists lists) (option_map (published secret Outcome) results) c) ≡ receipt_text (published secret Lists lists) (option_map (published secret Outcome) results) c
    unfolding receipt_text
    unmarked = refl

    pub good_receipt : ListIsShown c.kind c.has_list c.list → value_fault (published secret Lists lists) (option_map (published secret Outcome) results) c ≡ None
        → IsGoodReceipt (published secret Lists lists) (option_map (published secret Outcome) results) (receipt_of secret (letter_of c.kind) c.name lists results i)
    good_receipt shown none =
        let body = body_is secret lists results i c at name.plain in
        record {
          content = c;
          is_short = subst (λ (t : List ℕ). length t ≤ longest) (sym body) (let x = whole_clean.short in omega (arith, x));
          text_is = ap plain_text body ∙ text_kept _ unmarked whole_clean.kept;
          list_is = shown;
          nothing_wrong = none;
        }
