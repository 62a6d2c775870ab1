-- The lines and rows of an answer, written one after another.
use Rattle.std.proofs.Common.{◌≡◌, ℕ, Bool, ◌+◌, ◌<◌, List, [], ◌∷◌, ◌++◌, Option, Some, length, take, get_or, inl, inr, refl, sym, ap, ◌∙◌, subst, arith, rules, append_assoc, append-nil}
use Rattle.std.specs.Prelude.{slice_get}
use Rattle.std.specs.List.{enumerate_from, flat_map, zip}
use Rattle.std.proofs.lemmas.Grind.{flat_map-append}
use Rattle.std.proofs.lemmas.List.{length_push, take_more}
use Rattle.std.proofs.lemmas.List.FromFn.{get_or-enumerate_from, length-enumerate_from}
use Rattle.std.proofs.lemmas.Slice.Zip.{length-zip, get_or-zip}
use Rattle.match_model.proofs.Prefixes.{slice_get_push_parts}
use Rattle.match_reasons.specs.declared.reason.Why.{Why}
use Rattle.std.specs.Io.KnownBytes.{Appends}
use Rattle.records.specs.RowText.{Adds, Writes}
use Rattle.records.specs.declared.writer.RowWriter.{RowWriter}
use Rattle.records.proofs.RowTextFacts.{adds_both, adds_none, sent}
use Rattle.reasons_text.specs.Answers.{CaseParts}
use Rattle.reasons_text.specs.Lines.{first_line, lines, text_on}
use Rattle.reasons_text.specs.Naming.{Naming}
use Rattle.reasons_text.specs.Texts.{AddsRows, AppendsText, AreRowsOn}

-- a text made from the first k + 1 items is the text of the first k items and the text of item k
taken_next : {A : Type 0} (f : A → List ℕ) (xs : List A) (k : ℕ) (x : A) → k < length xs → get_or xs k x ≡ x →
    flat_map f (take (k + 1) xs) ≡ flat_map f (take k xs) ++ f x
taken_next f xs k x within here =
    ap (flat_map f) (take_more xs k x within)
    ∙ rw here (flat_map-append f (take k xs) (x ∷ []) ∙ ap (λ (rest : List ℕ). flat_map f (take k xs) ++ rest) (append-nil (f x)))

pair_same : {A B : Type 0} (x y : A) (u v : B) → x ≡ y → u ≡ v → ◌≡◌ {A = A × B} (x, u) (y, v)
pair_same x y u v e w = rw (e, w) refl

zip_within : {A B : Type 0} (ks : List A) (vs : List B) (k : ℕ) → k < length ks → k < length vs → k < length (zip ks vs)
zip_within ks vs k in_ks in_vs = omega (arith, length-zip ks vs)

zip_here : {A B : Type 0} (ks : List A) (vs : List B) (k : ℕ) (a : A) (b : B) → k < length ks → k < length vs → a ≡ get_or ks k a → b ≡ get_or vs k b
    → get_or (zip ks vs) k (a, b) ≡ (a, b)
zip_here ks vs k a b in_ks in_vs e w = get_or-zip ks vs k (a, b) in_ks in_vs ∙ pair_same _ _ _ _ (sym e) (sym w)

-- if the text has the lines about the first k items, and the next line is added, it has the lines
-- about the first k + 1
pub line_next : {A B : Type 0} (f : A × B → List ℕ) (ks : List A) (vs : List B) (k : ℕ) (a : A) (b : B) (start old new : List ℕ) →
    k < length ks → k < length vs → a ≡ get_or ks k a → b ≡ get_or vs k b → old ≡ start ++ flat_map f (take k (zip ks vs)) → new ≡ old ++ f (a, b)
    → new ≡ start ++ flat_map f (take (k + 1) (zip ks vs))
line_next f ks vs k a b start old new in_ks in_vs e w so_far more =
    more ∙ ap (λ (t : List ℕ). t ++ f (a, b)) so_far ∙ append_assoc start (flat_map f (take k (zip ks vs))) (f (a, b))
    ∙ ap (λ (t : List ℕ). start ++ t) (sym (taken_next f (zip ks vs) k (a, b) (zip_within ks vs k in_ks in_vs) (zip_here ks vs k a b in_ks in_vs e w)))

-- if the table has the rows about the first k items, and the next row is added, it has the rows about
-- the first k + 1
pub row_next : {W A B : Type 0} (contents : W → Option (List ℕ)) (f : ℕ × (A × B) → List ℕ) (ks : List A) (vs : List B) (k : ℕ) (a : A) (b : B)
    (start old new : RowWriter W) → k < length ks → k < length vs → a ≡ get_or ks k a → b ≡ get_or vs k b
    → Adds contents start old (flat_map f (take k (enumerate_from 1 (zip ks vs)))) → Adds contents old new (f (k + 1, (a, b)))
    → Adds contents start new (flat_map f (take (k + 1) (enumerate_from 1 (zip ks vs))))
row_next contents f ks vs k a b start old new in_ks in_vs e w so_far more =
    let pairs = zip ks vs in
    let within : k < length (enumerate_from 1 pairs) = omega (arith, length-enumerate_from 1 pairs, zip_within ks vs k in_ks in_vs) in
    let number : 1 + k ≡ k + 1 = omega arith in
    let here : get_or (enumerate_from 1 pairs) k (k + 1, (a, b)) ≡ (k + 1, (a, b)) =
    get_or-enumerate_from 1 pairs k (k + 1, (a, b)) (zip_within ks vs k in_ks in_vs) ∙ pair_same _ _ _ _ number (zip_here ks vs k a b in_ks in_vs e w) in
    subst (Adds contents start new) (sym (taken_next f (enumerate_from 1 pairs) k (k + 1, (a, b)) within here)) (adds_both contents start old new _ _ so_far more)

-- the text about a resident is the first line and then a line for each programme
pub text_made : (names : Naming) (without_ranks : Bool) (r : ℕ) (own with_own : Option ℕ) (programmes : List ℕ) (reasons : List Why) (old mid new : List ℕ) →
    with_own ≡ own → mid ≡ old ++ first_line names r with_own programmes reasons → new ≡ mid ++ lines names without_ranks r programmes reasons
    → new ≡ old ++ text_on names without_ranks r own programmes reasons
text_made names without_ranks r own with_own programmes reasons old mid new same first rest =
    rest ∙ ap (λ (t : List ℕ). t ++ lines names without_ranks r programmes reasons) (rw same at first)
    ∙ append_assoc old (first_line names r own programmes reasons) (lines names without_ranks r programmes reasons)

-- a text that was made by adding to an empty text is the added text
pub of_new : (P : List ℕ → Type 0) (old new text : List ℕ) → text ≡ new → old ≡ [] → AppendsText P (Some old) (Some new) → P text
of_new P old new text e none h = subst P (sym (e ∙ h.appended ∙ ap (λ (t : List ℕ). t ++ h.text) none)) h.wanted

-- about no residents there are no rows
pub rows_none : {W : Type 0} (contents : W → Option (List ℕ)) (c : CaseParts) (names : Naming) (without_ranks : Bool) (a : RowWriter W) →
    AddsRows contents c names without_ranks 0 a a
rows_none contents c names without_ranks a = record { texts = []; rows = (refl, nothing); added = adds_none contents a }
  where
    nothing : (r : ℕ) (text : List ℕ) → slice_get [] r ≡ Some text → AreRowsOn c names without_ranks r text
    nothing r text at = search rules

-- the rows about the first n + 1 residents are the rows about the first n and the rows about resident n
pub rows_more : {W : Type 0} (contents : W → Option (List ℕ)) (c : CaseParts) (names : Naming) (without_ranks : Bool) (n : ℕ) (a b d : RowWriter W) (t : List ℕ) →
    AddsRows contents c names without_ranks n a b → AreRowsOn c names without_ranks n t → Adds contents b d t → AddsRows contents c names without_ranks (n + 1) a d
rows_more contents c names without_ranks n a b d t h new more = record {
  texts = h.texts ++ t ∷ [];
  rows = (length_push h.texts t ∙ ap (λ k. k + 1) h.rows.0, each);
  added = rw (flat_map-append (λ (x : List ℕ). x) h.texts (t ∷ []), append-nil t) (adds_both contents a b d _ _ h.added more);
}
  where
    each : (r : ℕ) (text : List ℕ) → slice_get (h.texts ++ t ∷ []) r ≡ Some text → AreRowsOn c names without_ranks r text
    each r text at = elim (slice_get_push_parts h.texts t r text at) [
      | inl old ↦ h.rows.1 r text old
      | inr (i, same) ↦
          let here : n ≡ r = sym h.rows.0 ∙ sym i in
          subst (λ (v : List ℕ). AreRowsOn c names without_ranks r v) same (subst (λ q. AreRowsOn c names without_ranks q t) here new)
    ]

-- a text was added to an empty buffer over a writer, and then the buffer was written out
pub handed_over : {W : Type 0} (contents : W → Option (List ℕ)) (start last : RowWriter W) (old new : W) (none text : List ℕ) → start.writer.now ≡ old →
    start.buffer.now.items ≡ none → none ≡ [] → Adds contents start last text → Writes contents last.writer.now new last.buffer.now.items
    → Appends (contents old) (contents new) text
handed_over contents start last old new none text over holds empty added handed =
    sent contents start last (record { ref_ptr = start.writer.ref_ptr; ghost_name = start.writer.ghost_name; now = old }) new none text (refl, over, holds) empty
    added handed
