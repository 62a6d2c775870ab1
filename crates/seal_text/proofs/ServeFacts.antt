-- How many texts there are.
use Rattle.std.proofs.Common.{◌≡◌, ℕ, List, [], ◌++◌, Option, Some, length, map, refl, sym, ap, ◌∙◌, subst, arith}
use Rattle.std.specs.Prelude.{IfSome}
use Rattle.std.specs.Global.{Vec}
use Rattle.std.specs.List.{range_with_len}
use Rattle.std.proofs.lemmas.List.{length-map, length-append}
use Rattle.std.proofs.lemmas.List.FromFn.{length-map-range_with_len}
use Rattle.docket.specs.Contents.{Contents}
use Rattle.match_model.specs.Draft.{Draft}
use Rattle.reasons_text.specs.Answers.{CaseParts}
use Rattle.reasons_text.specs.RealNames.{Real}
use Rattle.docket.specs.Parts.{AreGiven, IsInFilesWithLists, rows_of_all}
use Rattle.docket.specs.Whole.{IsWhole}
use Rattle.match_model.specs.Written.{Written}
use Rattle.match_model.specs.declared.limits.Limits.{Limits}
use Rattle.seal_text.specs.Texts.{lists_texts, programme_lists, resident_lists, programme_result, AreListsOf, AreResultTexts, HasSheet, NameMembers}
use Rattle.seal_text.specs.Grown.{member_count, texts_of}
use Rattle.seal_text.specs.Serving.{draft_in, text_of}
use Rattle.seal_text.specs.declared.serve.Wanted.{Wanted}

-- there is one text of the lists for each member
pub lists_counted : (d : Contents) (draft : Draft) (real : Real) (texts : List (Vec ℕ)) → texts_of texts ≡ lists_texts d draft real → length texts ≡ member_count d
lists_counted d draft real texts e =
    let P = map (programme_lists d draft real) (range_with_len 0 (length d.instance.quotas)) in
    let R = map (resident_lists d draft real) (range_with_len 0 (length d.instance.resident_lists)) in
    let p = length-map-range_with_len (programme_lists d draft real) 0 (length d.instance.quotas) in
    let r = length-map-range_with_len (resident_lists d draft real) 0 (length d.instance.resident_lists) in
    sym (length-map texts (λ (text : Vec ℕ). text.items)) ∙ ap (λ (t : List (List ℕ)). length t) e ∙ length-append P R ∙ omega (arith, p, r)

-- there is one text of the result for each member
pub results_counted : (c : CaseParts) (texts : List (Vec ℕ)) → AreResultTexts c (texts_of texts) → length texts ≡ member_count c.docket
results_counted c texts h =
    let P = map (programme_result c.docket c.sheet) (range_with_len 0 (length c.docket.instance.quotas)) in
    let p = length-map-range_with_len (programme_result c.docket c.sheet) 0 (length c.docket.instance.quotas) in
    let r = h.are.each in
    sym (length-map texts (λ (text : Vec ℕ). text.items)) ∙ ap (λ (t : List (List ℕ)). length t) h.texts_are ∙ length-append P h.residents ∙ omega (arith, p, r)

-- if the number of texts is m, and n is m, the number of texts is n
pub counted_too : (texts : Option (Vec (Vec ℕ))) (m n : ℕ) → n ≡ m → IfSome texts (λ (t : Vec (Vec ℕ)). length t.items ≡ m) → IfSome texts (λ (t : Vec (Vec ℕ)). length t.items ≡ n)
counted_too texts m n e h = let P : ℕ → Type 0 = λ k. IfSome texts (λ (t : Vec (Vec ℕ)). length t.items ≡ k) in subst P (sym e) h

-- if the wanted text was added to an empty text, the result is the wanted text
pub wanted_made : (wanted : Wanted) (secret : List ℕ) (d : Contents) (lists lists' : List (List ℕ)) (results results' : Option (List (List ℕ))) (old new : List ℕ)
    → old ≡ [] → new ≡ old ++ text_of wanted secret d lists results → lists ≡ lists' → results ≡ results' → new ≡ text_of wanted secret d lists' results'
wanted_made wanted secret d lists lists' results results' old new o n l r = n ∙ rw (o, l, r) refl

-- if a docket is whole and has a sheet, the sheet has one entry for each resident, and only
-- programmes of the docket
pub has_sheet : (c : CaseParts) → c.docket.sheet ≡ Some c.sheet → IsWhole c.docket → HasSheet c
has_sheet c has whole = record { whole = whole; sheet_of = whole.sheet c.sheet has }

-- the lists of a docket that was read from files are those of its records, and name only its
-- members
pub lists_of : (lim : Limits) (d s : List ℕ) (c : Contents) (w : Written) (given : List (Option (List ℕ))) → IsInFilesWithLists lim d s [] c w → AreGiven (rows_of_all d s []) c given
    → AreListsOf (draft_in d s) given w
lists_of lim d s c w given read are = record { given_are = are.given_are; written_are = read.written_is }

pub names_members : (lim : Limits) (d s : List ℕ) (c : Contents) (w : Written) (given : List (Option (List ℕ))) → IsInFilesWithLists lim d s [] c w → AreGiven (rows_of_all d s []) c given
    → NameMembers c given w
names_members lim d s c w given read are = record { draft = draft_in d s; are_of = lists_of lim d s c w given read are; residents = are.members; programmes = read.read.members }
