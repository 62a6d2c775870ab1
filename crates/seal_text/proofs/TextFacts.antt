-- Texts that are handed to a writer, and the texts that are sealed for members.
use Rattle.std.proofs.Common.{◌≡◌, ℕ, ◌+◌, ◌<◌, Bool, List, [], ◌∷◌, ◌++◌, Option, Some, false, length, get_or, set, refl, sym, ap, ◌∙◌, subst, inl, inr, append_assoc, append-nil, zero-add, arith, rules}
use Rattle.std.specs.Prelude.{None, codes, map, option_map, slice_get, slice_index_or}
use Rattle.std.specs.Global.{Vec}
use Rattle.std.specs.Io.KnownBytes.{Appends}
use Rattle.std.proofs.lemmas.Bool.{cases_eq, ne_eqb}
use Rattle.std.proofs.lemmas.List.{length_push, length-set, get_or-set_same, get_or-set_other}
use Rattle.std.proofs.lemmas.List.FromFn.{fill_by_all, get_or-map-range_with_len, length-map-range_with_len}
use Rattle.std.specs.List.{range_with_len}
use Rattle.settle_law.proofs.Placements.{holds_true}
use Rattle.match_model.proofs.Prefixes.{slice_get_push_parts}
use Rattle.records.specs.RowText.{Adds, Writes}
use Rattle.records.specs.declared.writer.RowWriter.{RowWriter}
use Rattle.records.proofs.RowTextFacts.{sent}
use Rattle.match_model.specs.Placement.{holds, programme_of}
use Rattle.docket.specs.Contents.{Contents}
use Rattle.docket.specs.Texts.{filled_row, mark_row, programme_name, resident_name}
use Rattle.records.specs.Lines.{Grows, line}
use Rattle.records.specs.Reading.{Fields}
use Rattle.records.proofs.LineFacts.{grows_both}
use Rattle.match_model.specs.Draft.{Draft, given_lists}
use Rattle.match_model.specs.Instance.{is_withdrawn, list_at, quota}
use Rattle.reasons_text.specs.Texts.{AppendsText}
use Rattle.seal_text.proofs.Steps.{grows_three, members_next}
use Rattle.reasons_text.specs.Answers.{CaseParts}
use Rattle.reasons_text.specs.RealNames.{Real}
use Rattle.seal_text.specs.Texts.{IsResidentResult, PushesResults, line_if, list_record, name_record, member_row, member_rows, programme_lists, programme_result, quota_row, resident_lists, withdrawal_if}

-- if a text was added to an empty buffer, and the buffer was then sent to the writer, the writer got
-- this text
pub handed_over : {W : Type 0} (contents : W → Option (List ℕ)) (start last : RowWriter W) (old new : W) (none text : List ℕ) → start.writer.now ≡ old →
    start.buffer.now.items ≡ none → none ≡ [] → Adds contents start last text → Writes contents last.writer.now new last.buffer.now.items
    → Appends (contents old) (contents new) text
handed_over contents start last old new none text over holds empty added handed =
    sent contents start last (record { ref_ptr = start.writer.ref_ptr; ghost_name = start.writer.ghost_name; now = old }) new none text (refl, over, holds) empty
    added handed

-- for no residents no text was pushed
pub results_none : (c : CaseParts) (texts : List (List ℕ)) → PushesResults c 0 texts texts
results_none c texts = record { texts = []; are = record { each = refl; are = nothing }; pushed = sym (append-nil texts) }
  where
    nothing : (r : ℕ) (text : List ℕ) → slice_get [] r ≡ Some text → IsResidentResult c r text
    nothing r text at = search rules

-- pushing the result texts of the first n residents, and then that of resident n, pushes those of the
-- first n + 1
pub results_more : (c : CaseParts) (n : ℕ) (old mid new : List (List ℕ)) (t : List ℕ) → PushesResults c n old mid → IsResidentResult c n t → new ≡ mid ++ t ∷ []
    → PushesResults c (n + 1) old new
results_more c n old mid new t h is more = record {
  texts = h.texts ++ t ∷ [];
  are = record { each = length_push h.texts t ∙ ap (λ k. k + 1) h.are.each; are = each };
  pushed = more ∙ ap (λ (u : List (List ℕ)). u ++ t ∷ []) h.pushed ∙ append_assoc old h.texts (t ∷ []);
}
  where
    each : (r : ℕ) (text : List ℕ) → slice_get (h.texts ++ t ∷ []) r ≡ Some text → IsResidentResult c r text
    each r text at = elim (slice_get_push_parts h.texts t r text at) [
      | inl old ↦ h.are.are r text old
      | inr (i, same) ↦
          let here : n ≡ r = sym h.are.each ∙ sym i in
          subst (λ (v : List ℕ). IsResidentResult c r v) same (subst (λ q. IsResidentResult c q t) here is)
    ]

-- the programmes' result texts after the first n residents: each has the programme's row, and the
-- rows of its members among these residents
pub record AreSoFar (d : Contents) (m : List (Option ℕ)) (n : ℕ) (texts : List (List ℕ)) : Type 0 where
  pub each : length texts ≡ length d.instance.quotas
  pub are : (p : ℕ) → p < length d.instance.quotas → get_or texts p [] ≡ filled_row d m p ++ member_rows d m p n

pub none_yet : (d : Contents) (m : List (Option ℕ)) (texts : List (List ℕ)) → texts ≡ map (filled_row d m) (range_with_len 0 (length d.instance.quotas)) → AreSoFar d m 0 texts
none_yet d m texts e = record {
  each = ap (λ (ts : List (List ℕ)). length ts) e ∙ length-map-range_with_len (filled_row d m) 0 (length d.instance.quotas);
  are = λ p within. ap (λ (ts : List (List ℕ)). get_or ts p []) e
      ∙ get_or-map-range_with_len (filled_row d m) 0 (length d.instance.quotas) p p [] within (zero-add p) ∙ sym (append-nil (filled_row d m p));
}

-- the text of a programme that resident n does not have stays as it is
stays : (d : Contents) (m : List (Option ℕ)) (p n : ℕ) (text : List ℕ) → holds p (programme_of m n) ≡ false → text ≡ filled_row d m p ++ member_rows d m p n
    → text ≡ filled_row d m p ++ member_rows d m p (n + 1)
stays d m p n text absent h =
    let row_is : member_row d m p n ≡ [] = rw absent refl in
    h ∙ ap (λ (rows : List ℕ). filled_row d m p ++ rows) (sym (members_next (member_row d m p) n ∙ ap (λ (row : List ℕ). member_rows d m p n ++ row) row_is ∙ append-nil (member_rows d m p n)))

pub with_nobody : (d : Contents) (m : List (Option ℕ)) (n : ℕ) (texts : List (List ℕ)) → programme_of m n ≡ None → AreSoFar d m n texts → AreSoFar d m (n + 1) texts
with_nobody d m n texts none h = record {
  each = h.each;
  are = λ p within. stays d m p n (get_or texts p []) (ap (holds p) none) (h.are p within);
}

-- if resident n has programme q, adding the resident's row to q's text makes the texts right for the
-- first n + 1 residents
pub with_member : (d : Contents) (m : List (Option ℕ)) (n q : ℕ) (texts : List (List ℕ)) (text : List ℕ) → q < length d.instance.quotas → programme_of m n ≡ Some q
    → text ≡ get_or texts q [] ++ mark_row d n (Some q) → AreSoFar d m n texts → AreSoFar d m (n + 1) (set texts q text)
with_member d m n q texts text within has grew h = record {
  each = length-set texts q text ∙ h.each;
  are = λ p below. elim (cases_eq p q) [
    | inl same ↦ rw same (get_or-set_same texts q text [] (let each = h.each in omega arith) ∙ grew ∙ more)
    | inr other ↦ get_or-set_other texts q p text [] other
        ∙ stays d m p n (get_or texts p []) (ap (holds p) has ∙ ne_eqb q p (λ e. other (sym e))) (h.are p below)
  ];
}
  where
    row_is : member_row d m q n ≡ mark_row d n (Some q)
    row_is = rw (holds_true q (programme_of m n) has) refl

    more : get_or texts q [] ++ mark_row d n (Some q) ≡ filled_row d m q ++ member_rows d m q (n + 1)
    more =
        ap (λ (t : List ℕ). t ++ mark_row d n (Some q)) (h.are q within)
        ∙ append_assoc (filled_row d m q) (member_rows d m q n) (mark_row d n (Some q))
        ∙ ap (λ (rows : List ℕ). filled_row d m q ++ rows) (ap (λ (row : List ℕ). member_rows d m q n ++ row) (sym row_is) ∙ sym (members_next (member_row d m q) n))

-- the texts of the programmes with the rows of all residents are the texts of the programmes' results
pub are_all : (d : Contents) (m : List (Option ℕ)) (n : ℕ) (texts : List (List ℕ)) → n ≡ length d.instance.resident_lists → AreSoFar d m n texts
    → texts ≡ map (programme_result d m) (range_with_len 0 (length d.instance.quotas))
unfolding programme_result
are_all d m n texts all h =
    fill_by_all (programme_result d m) texts (length d.instance.quotas) [] h.each (λ p within. h.are p within ∙ ap (λ k. filled_row d m p ++ member_rows d m p k) all)

-- the text sealed for a programme before the match: its quota's row, its list, its withdrawal and its
-- real name, one after another
pub programme_made : (d : Contents) (draft : Draft) (real : Real) (p : ℕ) (a b c e f : Vec ℕ) (name : List ℕ) (places : ℕ) (list : Option (List ℕ)) (gone : Bool) (own : Option Fields)
    → a.items ≡ [] → name ≡ programme_name d p → places ≡ quota d.instance p → list ≡ slice_index_or draft.programme_lists p None → gone ≡ is_withdrawn d.instance.programmes_withdrawn p
    → own ≡ slice_index_or real.programmes p None
    → Grows a b (quota_row name places) → Grows b c (line_if (option_map (list_record (codes "P") name) (option_map (map (resident_name d)) list)))
    → Grows c e (withdrawal_if gone (codes "P") name) → Grows e f (line_if (name_record own)) → f.items ≡ programme_lists d draft real p
unfolding programme_lists
programme_made d draft real p a b c e f name places list gone own none n q li g o h k l m =
    grows_both a b f _ _ h (grows_three b c e f _ _ _ k l m) ∙ rw (none, n, q, li, g, o) refl

-- the text sealed for a resident before the match: its list, its withdrawal and its real name, one
-- after another
pub resident_made : (d : Contents) (draft : Draft) (real : Real) (r : ℕ) (a b c e : Vec ℕ) (name : List ℕ) (two fields : Fields) (lists : List (List ℕ)) (gone : Bool) (own : Option Fields)
    → a.items ≡ [] → name ≡ resident_name d r → lists ≡ given_lists draft.resident_lists → gone ≡ is_withdrawn d.instance.residents_withdrawn r
    → own ≡ slice_index_or real.residents r None → two ≡ codes "R" ∷ name ∷ [] → fields ≡ two ++ map (programme_name d) (list_at lists r)
    → Grows a b (line fields) → Grows b c (withdrawal_if gone (codes "R") name) → Grows c e (line_if (name_record own)) → e.items ≡ resident_lists d draft real r
unfolding resident_lists
resident_made d draft real r a b c e name two fields lists gone own none n f g o t is h k l = grows_three a b c e _ _ _ h k l ∙ rw (none, is, t, n, f, g, o) refl

-- a text that was made by adding to an empty text is the added text
pub of_new : (P : List ℕ → Type 0) (old new text : List ℕ) → text ≡ new → old ≡ [] → AppendsText P (Some old) (Some new) → P text
of_new P old new text e none h = subst P (sym (e ∙ h.appended ∙ ap (λ (t : List ℕ). t ++ h.text) none)) h.wanted
