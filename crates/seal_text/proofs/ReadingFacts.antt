-- The result of reading a docket's and a sheet's file.
use Rattle.std.proofs.Common.{◌≡◌, ℕ, List, [], Option, Some, refl, inl, inr}
use Rattle.std.specs.Prelude.{unwrap_or}
use Rattle.docket.specs.Contents.{Contents}
use Rattle.docket.specs.Parts.{IsInFilesWithLists}
use Rattle.docket.specs.declared.part.Part.TheVariants as part
use Rattle.docket.specs.declared.fault.DocketFault.TheVariants as docket
use Rattle.docket.specs.declared.records_fault.RecordsFault.TheVariants as records
use Rattle.match_model.specs.Written.{Written}
use Rattle.match_model.specs.declared.limits.Limits.TheVariants.{National}
use Rattle.audit_files.specs.Answer.{IsDocketIn, IsReadingFault}
use Rattle.audit_files.specs.declared.fault.FilesFault.TheVariants as files
use Rattle.reasons_text.specs.Answers.{CaseParts}
use Rattle.reasons_text.specs.RealNames.{IsNamesFault}
use Rattle.seal_text.specs.Serving.{IsCaseFault, IsCaseIn, IsOfKey, IsSealFault, IsUnmade, IsUntold}
use Rattle.seal_text.specs.declared.fault.SealFault.{SealFault}
use Rattle.seal_text.specs.declared.fault.SealFault.TheVariants as seal
use Rattle.seal_text.specs.declared.serve.Wanted.{Wanted}

-- if a docket was read from the files with its lists, the case made of both is the case in these
-- files
pub case_read : (d s : List ℕ) (contents : Contents) (written : Written) (c : CaseParts) → IsInFilesWithLists National d s [] contents written
    → c.docket ≡ contents → c.written ≡ written → c.docket.sheet ≡ Some c.sheet → IsCaseIn d s c
case_read d s contents written c h same lists has = record { read = rw (same, lists) h; has_sheet = has }

-- out of memory is a fault that reading any files may have
pub reading_memory : (d s j : List ℕ) → IsReadingFault d s j files.Memory
reading_memory d s j = record { first = record { file = part.Docket; fault = records.Docket docket.Memory }; is_first = inl (inl refl); is_told = refl }

pub no_memory : (d s : List ℕ) → IsCaseFault d s files.Memory
no_memory d s = inl (reading_memory d s [])

-- if a key gives no real names for some reason, the files with this key, and a case in these files,
-- can't be sealed for the same reason
pub key_unmade : (wanted : Wanted) (docket : List ℕ) (sheet key : Option (List ℕ)) (d : Contents) (fault : SealFault) → IsDocketIn docket (unwrap_or sheet []) [] d
    → IsOfKey key (IsNamesFault d) fault → IsUnmade wanted docket sheet key fault
key_unmade wanted docket sheet key d (seal.Secret fault) read h = h
key_unmade wanted docket sheet key d (seal.Files fault) read h = absurd h
key_unmade wanted docket sheet key d (seal.Key fault) read h = record { d = d; read = read; is_fault = h }
key_unmade wanted docket sheet key d seal.Unstable read h = absurd h

-- if there is no text for a case in some files, there is no text for these files, for the same
-- reason
pub case_unmade : (wanted : Wanted) (docket sheet : List ℕ) (key : Option (List ℕ)) (c : CaseParts) (fault : SealFault) → IsCaseIn docket sheet c → IsUntold wanted c key fault
    → IsUnmade wanted docket (Some sheet) key fault
case_unmade wanted docket sheet key c (seal.Secret fault) read h = h
case_unmade wanted docket sheet key c (seal.Files fault) read h = rw h (no_memory docket sheet)
case_unmade wanted docket sheet key c (seal.Key fault) read h = record { d = c.docket; read = read.read.docket_is; is_fault = h }
case_unmade wanted docket sheet key c seal.Unstable read h = record { c = c; read = read; untold = h }

-- if there is no text for some files, nothing is written for them, for the same reason
pub unwritten : (wanted : Wanted) (docket : List ℕ) (sheet key : Option (List ℕ)) (secret : List ℕ) (fault : SealFault) → IsUnmade wanted docket sheet key fault
    → IsSealFault wanted docket sheet key secret fault
unwritten wanted docket sheet key secret (seal.Secret fault) h = absurd h
unwritten wanted docket sheet key secret (seal.Files fault) h = inr h
unwritten wanted docket sheet key secret (seal.Key fault) h = h
unwritten wanted docket sheet key secret seal.Unstable h = h
