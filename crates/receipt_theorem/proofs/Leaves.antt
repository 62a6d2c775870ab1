-- The text that is sealed for a member before the match, and the part of a receipt about a tree, are those of
-- a receipt with the member's content.
use Rattle.std.proofs.Common.{◌≡◌, ℕ, ◌+◌, ◌/◌, ◌%◌, ◌<◌, Bool, true, false, List, [], ◌∷◌, ◌++◌, length, map, Option, Some, None, is_some, option_map, unwrap_or, refl, sym, ap, ◌∙◌, append_assoc, append-nil, arith}
use Rattle.std.specs.Prelude.{codes, decimal, ⊤, slice_index_or, slice_index}
use Rattle.std.specs.List.{All, flat_map, list_all}
use Rattle.std.proofs.lemmas.List.Elements.{All-head, All-tail}
use Rattle.hex.specs.Hex.{encode_lower, encode_with, lower_digits}
use Rattle.match_model.specs.Draft.{Draft, given_lists}
use Rattle.match_model.specs.Instance.{is_withdrawn, list_at, quota}
use Rattle.reasons_text.specs.RealNames.{Real}
use Rattle.records.specs.Lines as csv
use Rattle.records.specs.RowText.{row}
use Rattle.docket_names.specs.Words.{is_name_byte}
use Rattle.docket_names.proofs.WordFacts.{list_all_true_at}
use Rattle.docket.specs.Contents.{Contents}
use Rattle.docket.specs.Texts.{programme_name, resident_name}
use Rattle.seal.specs.Hashes.{AreBytes}
use Rattle.seal.specs.Tree.{path_of, root, seal_hash}
use Rattle.seal_text.specs.Sealed.{digest_field, hashes_of, opening_row, part_text, path_fields, root_row, root_row_of, salt_of, word_of}
use Rattle.seal_text.specs.Texts.{line_if, list_of_programme, list_of_resident, list_record, name_record, programme_lists, quota_row, resident_lists, withdrawal_if}
use Rattle.seal_text.specs.declared.leaves.Section.{Section}
use Rattle.seal_text.specs.declared.leaves.Section.TheVariants.{Lists, Outcome}
use Rattle.receipt_check.specs.Rows.{Cells, line, lines, more_fields}
use Rattle.receipt_check.specs.Receipt.{Receipt, last_rows, list_rows, lists_text, name_rows, part_rows}
use Rattle.receipt_check.specs.declared.kind.Kind.{Kind}
use Rattle.receipt_check.specs.declared.kind.Kind.TheVariants.{Programme, Resident}
use Rattle.seal_text.specs.Sealed.{published}
use Rattle.receipt_theorem.proofs.Openings.{IsDigest, hash_digest, opening_fields, path_digests}
use Rattle.receipt_theorem.proofs.Rows.{ArePlain, IsPlain, plain_line, plain_row}
use Rattle.receipt_theorem.proofs.Texts.{number_plain}
use Rattle.receipt_theorem.proofs.Market.{HasPlainNames}
use Rattle.receipt_theorem.proofs.Values.{Opened, programme_content, resident_content}

-- Lists.

pub names_plain : (f : ℕ → List ℕ) → ((k : ℕ) → IsPlain (f k)) → (xs : List ℕ) → ArePlain (map f xs)
names_plain f h [] = tt
names_plain f h (x ∷ xs) = (h x, names_plain f h xs)

module _ (d : Contents) (draft : Draft) (names : HasPlainNames d) where
  module _ (o : Opened) (real : Real) (p : ℕ) (others : Cells) (told : line_if (name_record (slice_index_or real.programmes p None)) ≡ lines (name_rows o.named)) where
    abbrev own : List ℕ
    own = line_if (name_record (slice_index_or real.programmes p None))

    abbrev name : List ℕ
    name = programme_name d p

    abbrev given : Option (List ℕ) → Bool → Receipt
    given list gone = programme_content o name (quota d.instance p) (option_map (map (resident_name d)) list) gone others

    list_plain : (xs : List ℕ) → csv.line (list_record (codes "P") name (map (resident_name d) xs)) ≡ line (codes "P" ∷ name ∷ map (resident_name d) xs)
    list_plain xs = plain_line (codes "P") (name ∷ map (resident_name d) xs) (refl, ((names.programmes p).plain, names_plain (resident_name d) (λ r. (names.residents r).plain) xs))

    gone_plain : row (codes "W" ∷ codes "P" ∷ name ∷ []) ++ own ≡ lines ((codes "W" ∷ codes "P" ∷ name ∷ []) ∷ name_rows o.named)
    gone_plain = ap (λ (t : List ℕ). row (codes "W" ∷ codes "P" ∷ name ∷ []) ++ t) told ∙ ap (λ (t : List ℕ). t ++ lines (name_rows o.named)) (plain_row (codes "W") (codes "P") (name ∷ []) (refl, (refl, ((names.programmes p).plain, tt))))

    rest : (list : Option (List ℕ)) (gone : Bool) → line_if (option_map (list_record (codes "P") name) (option_map (map (resident_name d)) list)) ++ (withdrawal_if gone (codes "P") name ++ own)
        ≡ lines (list_rows (given list gone) ++ last_rows (given list gone))
    rest None false = told
    rest None true = gone_plain
    rest (Some xs) false = ap (λ (t : List ℕ). t ++ own) (list_plain xs) ∙ ap (λ (t : List ℕ). line (codes "P" ∷ name ∷ map (resident_name d) xs) ++ t) told
    rest (Some xs) true = ap (λ (t : List ℕ). t ++ (row (codes "W" ∷ codes "P" ∷ name ∷ []) ++ own)) (list_plain xs) ∙ ap (λ (t : List ℕ). line (codes "P" ∷ name ∷ map (resident_name d) xs) ++ t) gone_plain

    -- the text that is sealed for a programme before the match is the text before the match in its
    -- receipt
    pub programme_lists_are : quota d.instance p < 1000000000
        → programme_lists d draft real p ≡ lists_text (programme_content o name (quota d.instance p) (list_of_programme d draft p) (is_withdrawn d.instance.programmes_withdrawn p) others)
    unfolding programme_lists lists_text
    programme_lists_are small =
        let first : quota_row name (quota d.instance p) ≡ line (codes "Q" ∷ name ∷ decimal (quota d.instance p) ∷ []) =
        plain_row (codes "Q") name (decimal (quota d.instance p) ∷ []) (refl, ((names.programmes p).plain, (number_plain (quota d.instance p) small, tt))) in
        ap (λ (t : List ℕ). t ++ (line_if (option_map (list_record (codes "P") name) (list_of_programme d draft p)) ++ (withdrawal_if (is_withdrawn d.instance.programmes_withdrawn p) (codes "P") name ++ own))) first
        ∙ ap (λ (t : List ℕ). line (codes "Q" ∷ name ∷ decimal (quota d.instance p) ∷ []) ++ t) (rest (slice_index_or draft.programme_lists p None) (is_withdrawn d.instance.programmes_withdrawn p))

  -- the text that is sealed for a resident before the match is the text before the match in the
  -- resident's receipt
  pub resident_lists_are : (o : Opened) (real : Real) (r : ℕ) (own : Option (List ℕ)) (after : List Cells) → line_if (name_record (slice_index_or real.residents r None)) ≡ lines (name_rows o.named)
      → resident_lists d draft real r ≡ lists_text (resident_content o (resident_name d r) (list_of_resident d draft r) (is_withdrawn d.instance.residents_withdrawn r) own after)
  unfolding resident_lists lists_text
  resident_lists_are o real r own after told =
      ap (λ (t : List ℕ). t ++ (withdrawal_if (is_withdrawn d.instance.residents_withdrawn r) (codes "R") (resident_name d r) ++ line_if (name_record (slice_index_or real.residents r None))))
      (plain_line (codes "R") (resident_name d r ∷ list_of_resident d draft r) (refl, ((names.residents r).plain, names_plain (programme_name d) (λ p. (names.programmes p).plain) (list_at (given_lists draft.resident_lists) r))))
      ∙ ap (λ (t : List ℕ). line (codes "R" ∷ resident_name d r ∷ list_of_resident d draft r) ++ t) (gone_is (is_withdrawn d.instance.residents_withdrawn r))
    where
      gone_is : (gone : Bool) → withdrawal_if gone (codes "R") (resident_name d r) ++ line_if (name_record (slice_index_or real.residents r None)) ≡ lines (last_rows (resident_content o (resident_name d r) (list_of_resident d draft r) gone own after))
      gone_is false = told
      gone_is true =
          ap (λ (t : List ℕ). row (codes "W" ∷ codes "R" ∷ resident_name d r ∷ []) ++ t) told
          ∙ ap (λ (t : List ℕ). t ++ lines (name_rows o.named)) (plain_row (codes "W") (codes "R") (resident_name d r ∷ []) (refl, (refl, ((names.residents r).plain, tt))))

-- Trees.

hex_plain_with : (t xs : List ℕ) → ((i : ℕ) → i < 16 → is_name_byte (slice_index t i) ≡ true) → AreBytes xs → IsPlain (encode_with t xs)
unfolding encode_with
hex_plain_with t [] each h = refl
hex_plain_with t (x ∷ xs) each h =
    let byte : x < 256 = All-head (λ b. b < 256) x xs h in
    rw (each (x / 16) (omega (arith, byte)), each (x % 16) (omega arith), hex_plain_with t xs each (All-tail (λ b. b < 256) x xs h)) refl

pub hex_plain : (digest : List ℕ) → IsDigest digest → IsPlain (encode_lower digest)
hex_plain digest h = hex_plain_with lower_digits digest (λ i l. list_all_true_at is_name_byte lower_digits i 0 l refl) h.bytes

pub digests_plain : (digests : List (List ℕ)) → All IsDigest digests → ArePlain (map encode_lower digests)
digests_plain [] h = tt
digests_plain (digest ∷ rest) h = (hex_plain digest (All-head IsDigest digest rest h), digests_plain rest (All-tail IsDigest digest rest h))

path_text : (path : List (List ℕ)) → more_fields (map encode_lower path) ≡ flat_map digest_field path
path_text [] = refl
path_text (x ∷ path) = ap (λ (t : List ℕ). (44 ∷ encode_lower x) ++ t) (path_text path)

opening_text : (section : Section) (i : ℕ) (salt : List ℕ) (path : List (List ℕ)) → opening_row section i salt path ≡ line (codes "opens" ∷ word_of section ∷ decimal i ∷ opening_fields salt path)
opening_text section i salt path =
    let tail = more_fields (map encode_lower path) in
    let end : (44 ∷ encode_lower salt) ++ path_fields path ≡ ((44 ∷ encode_lower salt) ++ more_fields (map encode_lower path)) ++ 10 ∷ [] =
    ap (λ (t : List ℕ). (44 ∷ encode_lower salt) ++ (t ++ 10 ∷ [])) (sym (path_text path)) ∙ sym (append_assoc (44 ∷ encode_lower salt) (more_fields (map encode_lower path)) (10 ∷ [])) in
    let number : (44 ∷ decimal i) ++ ((44 ∷ encode_lower salt) ++ path_fields path) ≡ ((44 ∷ decimal i) ++ ((44 ∷ encode_lower salt) ++ more_fields (map encode_lower path))) ++ 10 ∷ [] =
    ap (λ (t : List ℕ). (44 ∷ decimal i) ++ t) end ∙ sym (append_assoc (44 ∷ decimal i) ((44 ∷ encode_lower salt) ++ more_fields (map encode_lower path)) (10 ∷ [])) in
    ap (λ (t : List ℕ). codes "opens," ++ (word_of section ++ t)) number
    ∙ ap (λ (t : List ℕ). codes "opens" ++ t)
    (sym (append_assoc (44 ∷ word_of section) ((44 ∷ decimal i) ++ ((44 ∷ encode_lower salt) ++ more_fields (map encode_lower path))) (10 ∷ [])))

word_plain : (section : Section) → IsPlain (word_of section)
word_plain Lists = refl
word_plain Outcome = refl

-- the part of a receipt about a tree, as it is written, consists of the rows of this part
pub part_is : (secret : List ℕ) (section : Section) (texts : List (List ℕ)) (i : ℕ) → length texts < 1000000000
    → part_text secret section texts i
    ≡ lines (part_rows (word_of section) (published secret section texts) (decimal (length texts)) (decimal i) (opening_fields (salt_of secret section i) (path_of i (hashes_of secret section texts))))
    ++ slice_index_or texts i []
unfolding part_text
part_is secret section texts i few =
    let top = published secret section texts in
    let opened = line (codes "opens" ∷ word_of section ∷ decimal i ∷ opening_fields (salt_of secret section i) (path_of i (hashes_of secret section texts))) in
    let first : root_row_of secret section texts ≡ line (word_of section ∷ decimal (length texts) ∷ encode_lower (published secret section texts) ∷ []) =
    plain_row (word_of section) (decimal (length texts)) (encode_lower (published secret section texts) ∷ []) (word_plain section, (number_plain (length texts) few, (hex_plain (published secret section texts) (hash_digest _), tt))) in
    ap (λ (t : List ℕ). t ++ (opening_row section i (salt_of secret section i) (path_of i (hashes_of secret section texts)) ++ slice_index_or texts i [])) first
    ∙ ap (λ (t : List ℕ). line (word_of section ∷ decimal (length texts) ∷ encode_lower (published secret section texts) ∷ []) ++ (t ++ slice_index_or texts i []))
    (opening_text section i (salt_of secret section i) (path_of i (hashes_of secret section texts)) ∙ sym (append-nil (line (codes "opens" ∷ word_of section ∷ decimal i ∷ opening_fields (salt_of secret section i) (path_of i (hashes_of secret section texts))))))
    ∙ sym (append_assoc (line (word_of section ∷ decimal (length texts) ∷ encode_lower (published secret section texts) ∷ [])) _ (slice_index_or texts i []))
