-- Why no complete answer was written.
use Rattle.std.specs.Prelude.{◌≡◌, ◌⊎◌, ℕ, Option, Some, None, List, IfSome, IsSomeAnd}
use Rattle.docket.specs.Answers.{Stops}
use Rattle.docket.specs.Contents.{Contents}
use Rattle.docket.specs.Passes.{fault_within}
use Rattle.docket.specs.Read.{IsReadFault, IsSourceFault}
use Rattle.docket.specs.WithLists.{IsReadWithin}
use Rattle.docket.specs.declared.records_fault.RecordsFault.{RecordsFault}
use Rattle.docket.specs.declared.fault.DocketFault.TheVariants as docket
use Rattle.match_model.specs.Written.{Written}
use Rattle.match_model.specs.declared.limits.Limits.{Limits}
use Rattle.match_model.specs.declared.limits.Limits.TheVariants.{Standard}
use Rattle.reasons_text.specs.Answers.{CaseParts}
use Rattle.reasons_text.specs.Keys.{AreNames, HasBadRow, unnamed}
use Rattle.reasons_text.specs.Naming.{MeansNoMember, MeansTwo, Naming}
use Rattle.reasons_text.specs.declared.fault.WhyFault.{WhyFault}
use Rattle.reasons_text.specs.declared.fault.WhyFault.TheVariants.{Docket, Reading, NoSheet, NoResident, NoProgramme, ManyResidents, ManyProgrammes}
use Rattle.reasons_text.specs.declared.question.Asked.{Asked}
use Rattle.reasons_text.specs.declared.question.Asked.TheVariants as asked
use Rattle.reasons_text.specs.declared.side.Side.{Side}
use Rattle.reasons_text.specs.declared.side.Side.TheVariants.{Programmes, Residents}

-- a fault of the reader, or want of memory, or, if the bytes are known, the first fault of the bytes within these
-- limits
abbrev pub IsDocketFault : Limits → Option (List ℕ) → RecordsFault → Type 0
IsDocketFault limits bytes e = IsSourceFault e ⊎ IfSome bytes (λ b. Stops (fault_within limits b) e)

-- the bytes are a docket without a sheet within these limits
pub record HasNoSheetWithin (limits : Limits) (bytes : Option (List ℕ)) : Type 0 where
  pub docket : Contents
  pub written : Written
  pub read : IsReadWithin limits bytes docket written
  pub none : docket.sheet ≡ None

-- why a docket that was read cannot be asked about: it has no sheet, or memory ran out
abbrev pub IsOfNoCase : Contents → WhyFault → Type 0
IsOfNoCase d NoSheet = d.sheet ≡ None
IsOfNoCase d (Docket e) = e ≡ docket.Memory
IsOfNoCase d fault = ⊥

-- Why no docket with a sheet was read within these limits. If the machine had no random bytes, the fault is a
-- fault of the reader.
abbrev pub IsCaseFaultWithin : Limits → Option (List ℕ) → WhyFault → Type 0
IsCaseFaultWithin limits bytes (Docket e) = IsReadFault e ⊎ (e ≡ docket.Memory)
IsCaseFaultWithin limits bytes (Reading e) = IsDocketFault limits bytes e
IsCaseFaultWithin limits bytes NoSheet = HasNoSheetWithin limits bytes
IsCaseFaultWithin limits bytes fault = ⊥

-- the error is this fault, or out of memory
abbrev pub IsFaultOrMemory : Option WhyFault → WhyFault → Type 0
IsFaultOrMemory first fault = (fault ≡ Docket docket.Memory) ⊎ (first ≡ Some fault)

-- why the bytes of a key give no names: out of memory, or their first bad row
abbrev pub IsKeyFault : Contents → List ℕ → WhyFault → Type 0
IsKeyFault d bytes fault = (fault ≡ Docket docket.Memory) ⊎ HasBadRow d (unnamed d) bytes fault

-- the fault says that a name belongs to no member of this side; `IsSharedName` says that it belongs to more than one
abbrev pub IsUnknownName : Side → WhyFault → Type 0
IsUnknownName Residents (NoResident told) = Unit {0}
IsUnknownName Programmes (NoProgramme told) = Unit {0}
IsUnknownName side fault = ⊥

abbrev pub IsSharedName : Side → WhyFault → Type 0
IsSharedName Residents (ManyResidents told) = Unit {0}
IsSharedName Programmes (ManyProgrammes told) = Unit {0}
IsSharedName side fault = ⊥

-- why a name does not mean exactly one member: memory ran out, or the name means no member, or the name means two
abbrev pub IsNameFault : Naming → Side → List ℕ → WhyFault → Type 0
IsNameFault names side text fault = (fault ≡ Docket docket.Memory)
    ⊎ ((IsUnknownName side fault × MeansNoMember names side text) ⊎ (IsSharedName side fault × MeansTwo names side text))

-- why a question has no answer: one of its names does not mean exactly one member
abbrev pub IsAskedFault : Naming → Asked → WhyFault → Type 0
IsAskedFault names asked.AllResidents fault = ⊥
IsAskedFault names (asked.Resident name) fault = IsNameFault names Residents name.now fault
IsAskedFault names (asked.Pair resident programme) fault =
    IsNameFault names Residents resident.now fault ⊎ IsNameFault names Programmes programme.now fault

-- by the names of this docket and this key, a name of the question does not mean exactly one member
pub record IsUnmet (c : CaseParts) (key : Option (List ℕ)) (question : Asked) (fault : WhyFault) : Type 0 where
  pub names : Naming
  pub names_are : AreNames c.docket key names
  pub fails : IsAskedFault names question fault

-- Why nothing is answered, though a docket with a sheet was read. Either memory ran out, or the key has a bad row, or
-- a name does not mean exactly one member.
abbrev pub IsTextFault : CaseParts → Option (List ℕ) → Asked → WhyFault → Type 0
IsTextFault c key question fault = (fault ≡ Docket docket.Memory)
    ⊎ (IsSomeAnd key (λ bytes. HasBadRow c.docket (unnamed c.docket) bytes fault) ⊎ IsUnmet c key question fault)

-- why no answer was given over the docket of these bytes within these limits
abbrev pub IsTellFault : Limits → Option (List ℕ) → Option (List ℕ) → Asked → WhyFault → Type 0
IsTellFault limits bytes key question fault = IsCaseFaultWithin limits bytes fault
    ⊎ ((c : CaseParts) × (IsReadWithin limits bytes c.docket c.written × ((c.docket.sheet ≡ Some c.sheet) × IsTextFault c key question fault)))

-- a fault of the writer, or why nothing is answered over the docket with these bytes within these limits
abbrev pub IsServeFaultWithin : Limits → Option (List ℕ) → Option (List ℕ) → Asked → WhyFault → Type 0
IsServeFaultWithin limits bytes key question fault = (fault ≡ Docket docket.Write) ⊎ IsTellFault limits bytes key question fault

-- a fault of the writer, or why nothing is answered over the docket with these bytes within the standard limits
abbrev pub IsServeFault : Option (List ℕ) → Option (List ℕ) → Asked → WhyFault → Type 0
IsServeFault bytes key question fault = IsServeFaultWithin Standard bytes key question fault
