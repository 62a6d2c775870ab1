-- Within the standard limits a docket's first fault is one that every docket may have.
use Rattle.match_model.specs.declared.limits.Limits.TheVariants.{Standard}
use Rattle.std.proofs.Common.{◌≡◌, ◌⊎◌, ℕ, List, [], ◌∷◌, ◌++◌, ◌∙◌, sym, refl, inl, inr, Option, Some, None}
use Rattle.std.specs.Prelude.{IfSome, option_map}
use Rattle.std.specs.Option.{option_or}
use Rattle.records.specs.Reading.{Fields, rows_of}
use Rattle.docket.specs.Answers.{Refuses, Stops}
use Rattle.docket.specs.Contents.{Contents}
use Rattle.docket.specs.Passes.{docket_of, fault_in, fault_of, fault_within, first_fault, first_from, first_pass_fault, later_fault, listed_fault, reading_fault}
use Rattle.docket.specs.Read.{Explains, IsOfDocket, IsReadFault, IsSourceFault}
use Rattle.docket.specs.declared.fault.DocketFault.{DocketFault}
use Rattle.docket.specs.declared.fault.DocketFault.TheVariants.{Memory, Read}
use Rattle.docket.specs.declared.records_fault.RecordsFault.{RecordsFault}
use Rattle.docket.specs.declared.records_fault.RecordsFault.TheVariants.{Docket}
use Rattle.docket.proofs.CountFacts.{unmapped}

-- within the standard limits the first pass finds what it finds without the count of listed names
first_standard : (before rows : List Fields) → first_from (first_pass_fault Standard) before rows ≡ option_map Docket (first_from (reading_fault Standard) before rows)
unfolding first_from listed_fault
first_standard before [] = refl
first_standard before (row ∷ rows) = by (reading_fault Standard before row) (first_standard (before ++ row ∷ []) rows)
  where
    by : (own : Option DocketFault) → first_from (first_pass_fault Standard) (before ++ row ∷ []) rows ≡ option_map Docket (first_from (reading_fault Standard) (before ++ row ∷ []) rows)
        → option_or (option_or (option_map Docket own) None) (first_from (first_pass_fault Standard) (before ++ row ∷ []) rows)
        ≡ option_map Docket (option_or own (first_from (reading_fault Standard) (before ++ row ∷ []) rows))
    by None more = more
    by (Some f) more = refl

-- the first fault within the standard limits is one that every docket may have
pub fault_standard : (rows : List Fields) → fault_in Standard rows ≡ option_map Docket (fault_of rows)
fault_standard rows = rw (first_standard [] rows) (by (first_from (reading_fault Standard) [] rows))
  where
    by : (own : Option DocketFault) → option_or (option_map Docket own) (option_map Docket (later_fault Standard rows)) ≡ option_map Docket (option_or own (later_fault Standard rows))
    by None = refl
    by (Some f) = refl

mapped : (o : Option DocketFault) (e : RecordsFault) → option_map Docket o ≡ Some e → IsOfDocket e
mapped None e is = absurd (cc is)
mapped (Some f) e is = (f, cc is)

stops_standard : (o : Option DocketFault) (e : RecordsFault) → Stops (option_map Docket o) e → IsOfDocket e
stops_standard o e (inl memory) = (Memory, memory)
stops_standard o e (inr is) = mapped o e is

-- within the standard limits the first pass answers only faults that every docket may have
pub told_standard : (all : Option (List Fields)) (e : RecordsFault) → IsSourceFault e ⊎ Explains all (first_from (first_pass_fault Standard) []) e → IsOfDocket e
told_standard all e (inl read) = (Read read.0, read.1)
told_standard None e (inr some) = stops_standard (first_from (reading_fault Standard) [] some.0) e (rw (first_standard [] some.0) at some.1)
told_standard (Some rows) e (inr is) = stops_standard (first_from (reading_fault Standard) [] rows) e (rw (first_standard [] rows) at is)

-- what the standard reader answers, as a fault that every docket may have
pub read_standard : (known : Option (List ℕ)) (d : Contents) → IfSome known (λ bytes. (fault_within Standard bytes ≡ None) × (d ≡ docket_of bytes))
    → IfSome known (λ bytes. (first_fault bytes ≡ None) × (d ≡ docket_of bytes))
read_standard None d h = tt
read_standard (Some bytes) d h = (unmapped (first_fault bytes) (sym (fault_standard (rows_of bytes)) ∙ h.0), h.1)

refused_is : (o : Option DocketFault) (f : DocketFault) → Stops (option_map Docket o) (Docket f) → Refuses o f
refused_is o f (inl memory) = inl (cc memory)
refused_is None f (inr is) = absurd (cc is)
refused_is (Some g) f (inr is) = inr (cc is)

pub refused_standard : (known : Option (List ℕ)) (e : RecordsFault) (f : DocketFault) → e ≡ Docket f
    → IsSourceFault e ⊎ IfSome known (λ bytes. Stops (fault_within Standard bytes) e) → IsReadFault f ⊎ IfSome known (λ bytes. Refuses (first_fault bytes) f)
refused_standard known e f is (inl read) = let same : Docket f ≡ Docket (Read read.0) = sym is ∙ read.1 in inl (read.0, cc same)
refused_standard None e f is (inr h) = inr tt
refused_standard (Some bytes) e f is (inr h) = let stops : Stops (option_map Docket (first_fault bytes)) (Docket f) = rw (fault_standard (rows_of bytes), is) at h in inr (refused_is (first_fault bytes) f stops)
