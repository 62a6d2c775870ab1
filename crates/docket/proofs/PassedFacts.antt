-- What the later passes find, taken together.
use Rattle.std.proofs.Common.{◌≡◌, ◌⊎◌, inl, inr, ℕ, List, [], Bool, true, false, length, sym, ◌∙◌, ap, refl, Option, Some, None}
use Rattle.std.specs.Prelude.{◌&&◌, ◌||◌, nat_eq, bytes_eq, codes, IfSome, option_map}
use Rattle.std.specs.List.{IsDistinct}
use Rattle.std.specs.Option.{option_or}
use Rattle.match_model.specs.declared.limits.Limits.{Limits}
use Rattle.match_model.specs.Draft.{instance_of}
use Rattle.match_model.specs.Instance.{Instance}
use Rattle.docket_names.proofs.TextFacts.{names_length}
use Rattle.docket.specs.Answers.{Refuses, Stops}
use Rattle.docket.specs.Contents.{Contents, contents_of, draft_of, placement_of, programmes_of, residents_of, quotas_of, has_sheet, sheet_of}
use Rattle.records.specs.Reading.{Fields, rows_of}
use Rattle.docket.specs.Known.{AreKnown}
use Rattle.docket.specs.Passed.{IsPassed, HasPassed}
use Rattle.docket.specs.Passes.{first_from, first_pass_fault, later_fault, fault_within}
use Rattle.docket.specs.Ranking.{IsRanked}
use Rattle.docket.specs.Read.{IsSourceFault}
use Rattle.docket.specs.WithLists.{IsReadAs, KeptLists, lists_if}
use Rattle.docket.specs.declared.fault.DocketFault.{DocketFault}
use Rattle.docket.specs.declared.records_fault.RecordsFault.{RecordsFault}
use Rattle.docket.specs.declared.records_fault.RecordsFault.TheVariants.{Docket}
use Rattle.docket.specs.declared.reading.Reading.{Reading}
use Rattle.docket.specs.declared.vocabulary.TheConstants.{PROGRAMME_LIST, RESIDENT_LIST}
use Rattle.docket.proofs.CountFacts.{reading_sound}
use Rattle.docket.proofs.DeclarationFacts.{no_fault}
use Rattle.docket.proofs.DocketFacts.{no_members}
use Rattle.docket.proofs.RankingFacts.{lists_of-none, length-quotas_of}
use Rattle.docket.proofs.WidestFacts.{sound_widest, few_widest}
use Rattle.docket.proofs.WithdrawalFacts.{withdrawn_of-none}

-- what every later pass relies on: the members have the numbers of the names that the records
-- declare
pub known : (r : Reading) (rows : List Fields) → IsDistinct bytes_eq r.name_texts → IsPassed r rows → AreKnown r.name_texts r.declared.programmes r.declared.residents rows
known r rows distinct p = record {
  distinct = distinct;
  programmes_are = p.reading_is.declared.programmes;
  residents_are = p.reading_is.declared.residents;
  sound = sound_widest r.declared.builder.limits rows (reading_sound r.declared.builder.limits [] rows p.sound);
  few = few_widest r.declared.builder.limits (length rows) p.few;
}

-- before the second pass the builder has exactly what the first pass declared
pub ranked_none : (r : Reading) (rows : List Fields) → IsPassed r rows → IsRanked r.declared.builder rows []
ranked_none r rows p = let h = p.reading_is.declared in record {
  quotas = h.quotas;
  programme_lists = h.programme_lists ∙ sym (lists_of-none PROGRAMME_LIST (programmes_of rows) (residents_of rows));
  resident_lists = h.resident_lists ∙ sym (lists_of-none RESIDENT_LIST (residents_of rows) (programmes_of rows));
  programmes_withdrawn = h.no_programme_gone ∙ sym (withdrawn_of-none (codes "P") (programmes_of rows));
  residents_withdrawn = h.no_resident_gone ∙ sym (withdrawn_of-none (codes "R") (residents_of rows));
}

-- the first pass notes a sheet, or no members at all, exactly if the docket has a sheet
pub sheet_noted : (r : Reading) (rows : List Fields) → IsPassed r rows
    → (r.declared.has_sheet_row || (nat_eq (length r.declared.programmes) 0 && nat_eq (length r.declared.residents) 0)) ≡ has_sheet rows
unfolding has_sheet
sheet_noted r rows p =
    let h = p.reading_is.declared in
    let programmes : length r.declared.programmes ≡ length (programmes_of rows) = names_length r.name_texts r.declared.programmes (programmes_of rows) h.programmes in
    let residents : length r.declared.residents ≡ length (residents_of rows) = names_length r.name_texts r.declared.residents (residents_of rows) h.residents in
    rw (h.sheet_rows, programmes, residents, no_members rows) refl

-- the instance's quotas are those of the records
pub quotas_made : (inst : Instance) (rows : List Fields) → inst ≡ instance_of (draft_of rows) → inst.quotas ≡ quotas_of rows
quotas_made inst rows is = ap (λ (i : Instance). i.quotas) is

-- there are as many quotas as programmes
pub quotas_each : (r : Reading) (inst : Instance) (rows : List Fields) → IsPassed r rows → inst ≡ instance_of (draft_of rows) → length inst.quotas ≡ length r.declared.programmes
quotas_each r inst rows p is =
    ap length (quotas_made inst rows is) ∙ length-quotas_of rows ∙ sym (names_length r.name_texts r.declared.programmes (programmes_of rows) p.reading_is.declared.programmes)

-- if no pass has a fault, the whole call returns the docket, and its lists if they are asked for
pub all_read : (lim : Limits) (bytes : Option (List ℕ)) (keeps : Bool) (r : Reading) (d : Contents) (w : Option KeptLists)
    → r.declared.builder.limits ≡ lim → HasPassed (option_map rows_of bytes) r
    → ((rows : List Fields) → IsPassed r rows → d ≡ contents_of rows) → ((rows : List Fields) → IsPassed r rows → w ≡ lists_if keeps rows)
    → ((rows : List Fields) → IsPassed r rows → later_fault r.declared.builder.limits rows ≡ None) → IsReadAs lim bytes keeps d w
all_read lim bytes keeps r d w same h is lists none = record {
  rows = h.rows;
  all = h.all_are;
  faultless = rw (sym same) (no_fault _ _ h.passed.sound (ap (option_map Docket) (none h.rows h.passed)));
  docket_is = is h.rows h.passed;
  lists_are = lists h.rows h.passed;
}

-- if the first pass has no fault and a later pass has one, this is the fault of the whole call
stops_later : (first : Option RecordsFault) (later : Option DocketFault) (f : DocketFault) → first ≡ None → Refuses later f → Stops (option_or first (option_map Docket later)) (Docket f)
stops_later first later f none (inl memory) = inl (ap Docket memory)
stops_later first later f none (inr is) = inr (rw (none, is) refl)

-- if a later pass has a fault and the bytes are known, the whole call reports this fault
pub all_refused : (lim : Limits) (bytes : Option (List ℕ)) (r : Reading) (f : DocketFault)
    → r.declared.builder.limits ≡ lim → HasPassed (option_map rows_of bytes) r
    → ((rows : List Fields) → IsPassed r rows → Refuses (later_fault r.declared.builder.limits rows) f)
    → IsSourceFault (Docket f) ⊎ IfSome bytes (λ b. Stops (fault_within lim b) (Docket f))
all_refused lim None r f same h answers = inr tt
all_refused lim (Some b) r f same h answers =
    let sound : first_from (first_pass_fault lim) [] (rows_of b) ≡ None = rw (sym same, h.all_are) h.passed.sound in
    let later : Refuses (later_fault lim (rows_of b)) f = rw (sym same, h.all_are) (answers h.rows h.passed) in
    inr (stops_later _ _ f sound later)

-- the sheet of a docket with a sheet is the placement that its rows tell
pub sheet_there : (rows : List Fields) (sheet : List (Option ℕ)) → has_sheet rows ≡ true → sheet ≡ placement_of rows → Some sheet ≡ sheet_of rows
sheet_there rows sheet there is = rw (there, is) refl

pub sheet_away : (rows : List Fields) → has_sheet rows ≡ false → None ≡ sheet_of rows
sheet_away rows away = rw away refl

-- there is some list of the records that were read, even if the bytes are not known
pub some_passed : (all : Option (List Fields)) (r : Reading) → HasPassed all r → HasPassed None r
some_passed all r h = record { rows = h.rows; all_are = tt; passed = h.passed }
