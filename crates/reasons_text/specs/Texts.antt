-- The text that answers a question.
use Rattle.std.specs.Prelude.{◌≡◌, ℕ, Bool, false, Option, Some, None, List, ◌++◌, length, slice_get}
use Rattle.std.specs.List.{flat_map}
use Rattle.match_model.specs.Placement.{programme_of}
use Rattle.match_model.specs.declared.limits.Limits.{Limits}
use Rattle.match_model.specs.declared.limits.Limits.TheVariants.{Standard}
use Rattle.match_reasons.specs.declared.reason.Why.{Why}
use Rattle.std.specs.Io.KnownBytes.{Appends}
use Rattle.docket.specs.Contents.{Contents}
use Rattle.records.specs.RowText.{Adds, row}
use Rattle.docket.specs.Texts.{programme_name, resident_name}
use Rattle.docket.specs.WithLists.{IsReadWithin}
use Rattle.records.specs.declared.writer.RowWriter.{RowWriter}
use Rattle.reasons_text.specs.Answers.{AreAnswers, AreOfRecord, CaseParts, IsAnswer}
use Rattle.reasons_text.specs.Lines.{line, text_on}
use Rattle.reasons_text.specs.Keys.{AreNames}
use Rattle.reasons_text.specs.Naming.{MeansAlone, Naming, own_names}
use Rattle.reasons_text.specs.declared.side.Side.TheVariants.{Programmes, Residents}
use Rattle.reasons_text.specs.Table.{columns, rows_on}
use Rattle.reasons_text.specs.Told.{IsTold}
use Rattle.reasons_text.specs.declared.answering.AskedMembers.{AskedMembers as Told}
use Rattle.reasons_text.specs.declared.answering.AskedMembers.TheVariants.{AllResidents, Resident, Pair}
use Rattle.reasons_text.specs.declared.question.Asked.{Asked}
use Rattle.reasons_text.specs.declared.question.Asked.TheVariants as asked

-- What the program answers to resident r: the programmes of r's R record, in order, and for each programme the first
-- answer that is true.
pub record RecordAnswers (c : CaseParts) (r : ℕ) : Type 0 where
  pub programmes : List ℕ
  pub reasons : List Why
  pub first : AreAnswers c r programmes reasons
  pub record_is : AreOfRecord c.docket c.written r programmes

-- The first line about resident r, then one line for each programme of r's R record, and no other line.
pub record IsTextOn (c : CaseParts) (names : Naming) (without_ranks : Bool) (r : ℕ) (text : List ℕ) : Type 0 where
  pub told : RecordAnswers c r
  pub text_is : text ≡ text_on names without_ranks r (programme_of c.sheet r) told.programmes told.reasons

-- the text is the line for resident r about programme p
pub record IsLineOn (c : CaseParts) (names : Naming) (without_ranks : Bool) (r p : ℕ) (text : List ℕ) : Type 0 where
  pub reason : Why
  pub first : IsAnswer c r p reason
  pub text_is : text ≡ line names without_ranks r p reason

-- one row for each programme of resident r's R record, in order, and no other row
pub record AreRowsOn (c : CaseParts) (names : Naming) (without_ranks : Bool) (r : ℕ) (text : List ℕ) : Type 0 where
  pub told : RecordAnswers c r
  pub text_is : text ≡ rows_on names without_ranks r told.programmes told.reasons

-- the rows about the first n residents, one resident after another
abbrev pub AreRowsBelow : CaseParts → Naming → Bool → ℕ → List (List ℕ) → Type 0
AreRowsBelow c names without_ranks n texts =
    (length texts ≡ n) × ((r : ℕ) (text : List ℕ) → slice_get texts r ≡ Some text → AreRowsOn c names without_ranks r text)

-- The names of the columns, then the rows about all residents, in the docket's order, and no other row.
pub record IsTable (c : CaseParts) (names : Naming) (without_ranks : Bool) (text : List ℕ) : Type 0 where
  pub texts : List (List ℕ)
  pub rows : AreRowsBelow c names without_ranks (length c.docket.instance.resident_lists) texts
  pub text_is : text ≡ row columns ++ flat_map (λ t. t) texts

-- the text for the residents and programmes that the question is about
abbrev pub IsTextOf : CaseParts → Naming → Bool → Told → List ℕ → Type 0
IsTextOf c names without_ranks AllResidents text = IsTable c names without_ranks text
IsTextOf c names without_ranks (Resident r) text = IsTextOn c names without_ranks r text
IsTextOf c names without_ranks (Pair r p) text = IsLineOn c names without_ranks r p text

-- The question is about all residents, about the only resident whom its name means, or about the only resident and the
-- only programme that its names mean.
abbrev pub Asks : Naming → Asked → Told → Type 0
Asks names asked.AllResidents AllResidents = Unit {0}
Asks names (asked.Resident name) (Resident r) = MeansAlone names Residents name.now r
Asks names (asked.Pair resident programme) (Pair r p) = MeansAlone names Residents resident.now r × MeansAlone names Programmes programme.now p
Asks names question told = ⊥

-- each name of the question is a name of the docket itself
abbrev pub AsksByDocket : Contents → Asked → Told → Type 0
AsksByDocket docket asked.AllResidents AllResidents = Unit {0}
AsksByDocket docket (asked.Resident name) (Resident r) = resident_name docket r ≡ name.now
AsksByDocket docket (asked.Pair resident programme) (Pair r p) = (resident_name docket r ≡ resident.now) × (programme_name docket p ≡ programme.now)
AsksByDocket docket question told = ⊥

-- The text answers the question over this docket. The names are those of the key, or without a key the docket's own.
pub record Answers (c : CaseParts) (key : Option (List ℕ)) (question : Asked) (without_ranks : Bool) (text : List ℕ) : Type 0 where
  pub names : Naming
  pub names_are : AreNames c.docket key names
  pub told : Told
  pub member : IsTold c.docket.instance told
  pub asks : Asks names question told
  pub asks_keyless : key ≡ None → AsksByDocket c.docket question told
  pub text_is : IsTextOf c names without_ranks told text

-- the text answers the question over the docket of these bytes within these limits
pub record AnswersWithin (limits : Limits) (bytes key : Option (List ℕ)) (question : Asked) (without_ranks : Bool) (text : List ℕ) : Type 0 where
  pub case : CaseParts
  pub read : IsReadWithin limits bytes case.docket case.written
  pub sheet : case.docket.sheet ≡ Some case.sheet
  pub answers : Answers case key question without_ranks text

-- the text answers the question over the docket of these bytes within the standard limits
abbrev pub AnswersFrom : Option (List ℕ) → Option (List ℕ) → Asked → Bool → List ℕ → Type 0
AnswersFrom bytes key question without_ranks text = AnswersWithin Standard bytes key question without_ranks text

-- the rows about the first n residents were added
pub record AddsRows {W : Type 0} (contents : W → Option (List ℕ)) (c : CaseParts) (names : Naming) (without_ranks : Bool) (n : ℕ)
    (old new : RowWriter W) : Type 0 where
  pub texts : List (List ℕ)
  pub rows : AreRowsBelow c names without_ranks n texts
  pub added : Adds contents old new (flat_map (λ t. t) texts)

-- the rows about resident r were added, with the docket's own names and with ranks
pub record AddsOwnRows {W : Type 0} (contents : W → Option (List ℕ)) (c : CaseParts) (r : ℕ) (old new : RowWriter W) : Type 0 where
  pub text : List ℕ
  pub rows : AreRowsOn c (own_names c.docket) false r text
  pub added : Adds contents old new text

-- the text that was appended, if it is known, has this property
pub record AppendsText (Wanted : List ℕ → Type 0) (old new : Option (List ℕ)) : Type 0 where
  pub text : List ℕ
  pub wanted : Wanted text
  pub appended : Appends old new text
