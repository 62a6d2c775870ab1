-- A receipt that is written is the text of its content.
use Rattle.std.proofs.Common.{◌≡◌, ℕ, ◌+◌, ◌*◌, ◌<◌, ◌≤◌, ◌&&◌, Bool, true, false, List, [], ◌∷◌, ◌++◌, length, map, get_or, Option, Some, None, option_map, refl, sym, ap, ◌∙◌, arith, append_assoc, append-nil, subst}
use Rattle.std.specs.Prelude.{codes, decimal, not, slice_get, slice_index_or, ⊤}
use Rattle.std.specs.List.{All}
use Rattle.std.proofs.lemmas.List.{length-append}
use Rattle.std.proofs.lemmas.List.Elements.{All-map, All-append}
use Rattle.std.proofs.lemmas.Option.{get_or_from_slice_get}
use Rattle.seal.specs.Hashes.{Leaf, leaf_hash}
use Rattle.seal.specs.Tree.{opened, path_of, leaf_hashes}
use Rattle.records.specs.RowText.{row}
use Rattle.seal_text.specs.Sealed.{hashes_of, leaf_of, leaves_from, part_text, result_text_if, salt_of, word_of}
use Rattle.seal_text.specs.declared.leaves.Section.{Section}
use Rattle.seal_text.specs.declared.leaves.Section.TheVariants.{Lists, Outcome}
use Rattle.seal_text.proofs.OpenFacts.{receipt_opens}
use Rattle.receipt_check.specs.Rows.{Cells, line, lines, plain_text}
use Rattle.receipt_check.specs.Receipt.{Receipt, first_row, has_real_name, letter_of, lists_text, part_rows, receipt_text, result_part, result_text}
use Rattle.receipt_check.specs.Faults.{opening_wrong}
use Rattle.receipt_check.specs.Named.{is_real}
use Rattle.receipt_check.specs.declared.kind.Kind.{Kind}
use Rattle.receipt_check.specs.declared.kind.Kind.TheVariants.{Programme, Resident}
use Rattle.seal_text.specs.Sealed.{published, receipt_of}
use Rattle.receipt_theorem.proofs.Leaves.{part_is}
use Rattle.receipt_theorem.proofs.Openings.{IsDigest, hash_digest, opening_fields, opening_good}
use Rattle.receipt_theorem.proofs.Rows.{ArePlain, IsPlain, plain_row}
use Rattle.receipt_theorem.proofs.Values.{AreOpened, Opened}

-- the fields of the opening of a leaf of the result, or none without a result
abbrev pub second_at : List ℕ → Option (List (List ℕ)) → ℕ → Cells
second_at secret None i = []
second_at secret (Some texts) i = opening_fields (salt_of secret Outcome i) (path_of i (hashes_of secret Outcome texts))

-- what the receipt of the member at place i has from the trees, and the row of the real name
abbrev pub opened_at : List ℕ → List (List ℕ) → Option (List (List ℕ)) → ℕ → Cells → Opened
opened_at secret lists results i named = record {
  count = length lists;
  index = i;
  opening = opening_fields (salt_of secret Lists i) (path_of i (hashes_of secret Lists lists));
  second = second_at secret results i;
  named = named;
}

-- the content c has the count, the place and the openings of the trees at place i; its texts are the sealed ones; and
-- the row of its real name is right
pub record IsAt (secret : List ℕ) (lists : List (List ℕ)) (results : Option (List (List ℕ))) (i : ℕ) (c : Receipt) : Type 0 where
  pub count_is : c.count ≡ decimal (length lists)
  pub index_is : c.index ≡ decimal i
  pub opening_is : c.opening ≡ opening_fields (salt_of secret Lists i) (path_of i (hashes_of secret Lists lists))
  pub second_is : c.second ≡ second_at secret results i
  pub few : length lists < 1000000000
  pub listed : slice_get lists i ≡ Some (lists_text c)
  pub each : (texts : List (List ℕ)) → results ≡ Some texts → length texts ≡ length lists
  pub placed : (texts : List (List ℕ)) → results ≡ Some texts → slice_get texts i ≡ Some (result_text c)
  pub named : (has_real_name c.named && not (is_real c.named)) ≡ false

pub digests : (secret : List ℕ) (section : Section) (texts : List (List ℕ)) → All IsDigest (hashes_of secret section texts)
digests secret section texts = All-map IsDigest leaf_hash (leaves_from secret section 0 texts) (λ k d l. hash_digest _)

opened_there : (secret : List ℕ) (section : Section) (texts : List (List ℕ)) (i : ℕ) (text : List ℕ) → slice_get texts i ≡ Some text
    → opening_wrong (published secret section texts) (length texts) i (opening_fields (salt_of secret section i) (path_of i (hashes_of secret section texts))) text ≡ None
opened_there secret section texts i text there =
    opening_good (published secret section texts) (salt_of secret section i) text (length texts) i (hashes_of secret section texts) (hash_digest _) (digests secret section texts)
    (receipt_opens secret section texts i text there)

module _ (secret : List ℕ) (lists : List (List ℕ)) (results : Option (List (List ℕ))) (i : ℕ) (c : Receipt) (at : IsAt secret lists results i c) where
  -- what the receipt at place i has from the trees is right, if the place is below 1000000000
  pub opened_right : i < 1000000000 → AreOpened (published secret Lists lists) (option_map (published secret Outcome) results) (opened_at secret lists results i c.named) c
  opened_right small = record {
    few = at.few;
    small = small;
    lists = ap (λ (fields : Cells). opening_wrong (published secret Lists lists) (length lists) i fields (lists_text c)) at.opening_is ∙ opened_there secret Lists lists i (lists_text c) at.listed;
    result = by_results results refl;
    named = at.named;
  }
    where
      by_results : (o : Option (List (List ℕ))) → results ≡ o → (root : List ℕ) → option_map (published secret Outcome) o ≡ Some root → opening_wrong root (length lists) i c.second (result_text c) ≡ None
      by_results None e root h = cc h
      by_results (Some texts) e root h =
          let it : published secret Outcome texts ≡ root = cc h in
          let fields : c.second ≡ opening_fields (salt_of secret Outcome i) (path_of i (hashes_of secret Outcome texts)) = at.second_is ∙ ap (λ (o : Option (List (List ℕ))). second_at secret o i) e in
          rw (← it, ← (at.each texts e)) (ap (λ (f : Cells). opening_wrong (published secret Outcome texts) (length texts) i f (result_text c)) fields ∙ opened_there secret Outcome texts i (result_text c) (at.placed texts e))

  part_at : (section : Section) (texts : List (List ℕ)) (fields : Cells) (text : List ℕ) → length texts ≡ length lists → slice_get texts i ≡ Some text
      → fields ≡ opening_fields (salt_of secret section i) (path_of i (hashes_of secret section texts))
      → part_text secret section texts i ≡ lines (part_rows (word_of section) (published secret section texts) c.count c.index fields) ++ text
  part_at section texts fields text each there opening =
      let text_is : slice_index_or texts i [] ≡ text = get_or_from_slice_get texts i text [] there in
      let count : decimal (length texts) ≡ c.count = ap decimal each ∙ sym at.count_is in
      part_is secret section texts i (subst (λ n. n < 1000000000) (sym each) at.few)
      ∙ ap (λ (n : List ℕ). lines (part_rows (word_of section) (published secret section texts) n (decimal i) (opening_fields (salt_of secret section i) (path_of i (hashes_of secret section texts)))) ++ slice_index_or texts i []) count
      ∙ ap (λ (n : List ℕ). lines (part_rows (word_of section) (published secret section texts) c.count n (opening_fields (salt_of secret section i) (path_of i (hashes_of secret section texts)))) ++ slice_index_or texts i []) (sym at.index_is)
      ∙ ap (λ (f : Cells). lines (part_rows (word_of section) (published secret section texts) c.count c.index f) ++ slice_index_or texts i []) (sym opening)
      ∙ ap (λ (t : List ℕ). lines (part_rows (word_of section) (published secret section texts) c.count c.index fields) ++ t) text_is

  letter_plain : IsPlain (letter_of c.kind)
  letter_plain = by c.kind
    where
      by : (kind : Kind) → IsPlain (letter_of kind)
      by Programme = refl
      by Resident = refl

  results_at : (o : Option (List (List ℕ))) → results ≡ o → result_text_if secret o i ≡ result_part (option_map (published secret Outcome) o) c
  results_at None e = refl
  results_at (Some texts) e = part_at Outcome texts c.second (result_text c) (at.each texts e) (at.placed texts e) (at.second_is ∙ ap (λ (o : Option (List (List ℕ))). second_at secret o i) e)

  -- the receipt that is written at place i is the text of its content, if the member's name is plain
  pub body_is : IsPlain c.name → receipt_of secret (letter_of c.kind) c.name lists results i ≡ receipt_text (published secret Lists lists) (option_map (published secret Outcome) results) c
  unfolding receipt_text
  body_is plain =
      let pairs = lines (part_rows (codes "lists") (published secret Lists lists) c.count c.index c.opening) in
      let told = result_part (option_map (published secret Outcome) results) c in
      let first : row (first_row c) ≡ line (first_row c) = plain_row (codes "receipt") (codes "2") (letter_of c.kind ∷ c.name ∷ []) (refl, (refl, (letter_plain, (plain, tt)))) in
      ap (λ (t : List ℕ). t ++ (part_text secret Lists lists i ++ result_text_if secret results i)) first
      ∙ ap (λ (t : List ℕ). line (first_row c) ++ (t ++ result_text_if secret results i)) (part_at Lists lists c.opening (lists_text c) refl at.listed at.opening_is)
      ∙ ap (λ (t : List ℕ). line (first_row c) ++ ((lines (part_rows (codes "lists") (published secret Lists lists) c.count c.index c.opening) ++ lists_text c) ++ t)) (results_at results refl)
      ∙ ap (λ (t : List ℕ). line (first_row c) ++ t) (append_assoc (lines (part_rows (codes "lists") (published secret Lists lists) c.count c.index c.opening)) (lists_text c) (result_part (option_map (published secret Outcome) results) c))
      ∙ sym (append_assoc (line (first_row c)) (lines (part_rows (codes "lists") (published secret Lists lists) c.count c.index c.opening)) (lists_text c ++ result_part (option_map (published secret Outcome) results) c))
