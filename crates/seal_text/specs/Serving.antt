-- What the program writes about a docket, a sheet and a secret.
use Rattle.std.specs.Prelude.{◌≡◌, ◌⊎◌, ℕ, Bool, true, false, Option, Some, None, Ok, Err, List, [], IsSomeAnd, unwrap_or}
use Rattle.match_model.specs.Draft.{Draft}
use Rattle.match_model.specs.declared.limits.Limits.TheVariants.{National}
use Rattle.settle_law.specs.Stable.{IsStable}
use Rattle.docket.specs.Contents.{draft_of}
use Rattle.docket.specs.Parts.{rows_of_all}
use Rattle.reasons_text.specs.Answers.{CaseParts}
use Rattle.reasons_text.specs.Files.{IsCaseInFiles}
use Rattle.reasons_text.specs.RealNames.{AreReal, IsNamesFault, Real}
use Rattle.reasons_text.specs.declared.real_names.NamesFault.{NamesFault}
use Rattle.audit_files.specs.Answer.{IsDocketIn, IsReadingFault}
use Rattle.audit_files.specs.declared.fault.FilesFault.{FilesFault}
use Rattle.audit_files.specs.declared.fault.FilesFault.TheVariants as files
use Rattle.docket.specs.Contents.{Contents}
use Rattle.seal_text.specs.Secret.{secret_of}
use Rattle.seal_text.specs.Texts.{lists_texts, AreResultTexts}
use Rattle.seal_text.specs.Sealed.{roots_text, receipts_text}
use Rattle.seal_text.specs.declared.fault.SealFault.{SealFault}
use Rattle.seal_text.specs.declared.fault.SealFault.TheVariants.{Secret, Files, Key, Unstable}
use Rattle.seal_text.specs.declared.serve.Wanted.{Wanted}
use Rattle.seal_text.specs.declared.serve.Wanted.TheVariants.{Roots, Receipts}

-- the docket and the sheet that two files give, each file read as its own part, with the lists as they were written
abbrev pub IsCaseIn : List ℕ → List ℕ → CaseParts → Type 0
IsCaseIn docket sheet c = IsCaseInFiles National docket sheet c

-- the quotas, lists and withdrawals in the records of a docket's and a sheet's file, as a builder's input
abbrev pub draft_in : List ℕ → List ℕ → Draft
draft_in docket sheet = draft_of (rows_of_all docket sheet [])

-- the text to write for these leaves: the rows of the roots, or all receipts
abbrev pub text_of : Wanted → List ℕ → Contents → List (List ℕ) → Option (List (List ℕ)) → List ℕ
text_of Roots secret d lists results = roots_text secret lists results
text_of Receipts secret d lists results = receipts_text secret d lists results

-- the text to write for a docket alone, with the real names in a key, if there is one
pub record IsEarlyText (wanted : Wanted) (docket : List ℕ) (key : Option (List ℕ)) (secret text : List ℕ) : Type 0 where
  pub d : Contents
  pub read : IsDocketIn docket [] [] d
  pub real : Real
  pub are_real : AreReal d key real
  pub text_is : text ≡ text_of wanted secret d (lists_texts d (draft_in docket []) real) None

-- whether the wanted text may be written for the case: it may, unless receipts are wanted and the sheet isn't
-- stable
abbrev pub IsTold : Wanted → CaseParts → Bool → Type 0
IsTold wanted c true = wanted ≡ Receipts → IsStable c.docket.instance c.sheet
IsTold wanted c false = (wanted ≡ Receipts) × ¬ IsStable c.docket.instance c.sheet

-- receipts are wanted, and the files give a docket and a sheet that isn't stable
pub record IsUnstable (wanted : Wanted) (docket sheet : List ℕ) : Type 0 where
  pub c : CaseParts
  pub read : IsCaseIn docket sheet c
  pub untold : IsTold wanted c false

-- receipts are wanted, and there is a sheet, which isn't stable
abbrev pub IsUnfit : Wanted → List ℕ → Option (List ℕ) → Type 0
IsUnfit wanted docket None = ⊥
IsUnfit wanted docket (Some sheet) = IsUnstable wanted docket sheet

-- the text to write for a case, with the lists of this draft and the real names of a key, if there is one; receipts are
-- written only for a stable sheet
pub record IsTextOf (wanted : Wanted) (c : CaseParts) (draft : Draft) (key : Option (List ℕ)) (secret text : List ℕ) : Type 0 where
  pub stable : wanted ≡ Receipts → IsStable c.docket.instance c.sheet
  pub real : Real
  pub are_real : AreReal c.docket key real
  pub results : List (List ℕ)
  pub are_results : AreResultTexts c results
  pub text_is : text ≡ text_of wanted secret c.docket (lists_texts c.docket draft real) (Some results)

-- the text to write for a docket and its sheet
pub record IsFullText (wanted : Wanted) (docket sheet : List ℕ) (key : Option (List ℕ)) (secret text : List ℕ) : Type 0 where
  pub c : CaseParts
  pub read : IsCaseIn docket sheet c
  pub made : IsTextOf wanted c (draft_in docket sheet) key secret text

-- the text to write for a docket and, if there is one, its sheet
abbrev pub IsTextFrom : Wanted → List ℕ → Option (List ℕ) → Option (List ℕ) → List ℕ → List ℕ → Type 0
IsTextFrom wanted docket None key secret text = IsEarlyText wanted docket key secret text
IsTextFrom wanted docket (Some sheet) key secret text = IsFullText wanted docket sheet key secret text

-- the file has a secret, and this is the text to write
pub record IsServed (wanted : Wanted) (docket : List ℕ) (sheet key : Option (List ℕ)) (secret_text text : List ℕ) : Type 0 where
  pub secret : List ℕ
  pub is_secret : secret_of secret_text ≡ Ok secret
  pub text_is : IsTextFrom wanted docket sheet key secret text

-- the files give a docket without a sheet
pub record HasNoSheet (docket sheet : List ℕ) : Type 0 where
  pub d : Contents
  pub read : IsDocketIn docket sheet [] d
  pub none : d.sheet ≡ None

-- why there is no text for the files: they are no docket, or they have no sheet
abbrev pub IsCaseFault : List ℕ → List ℕ → FilesFault → Type 0
IsCaseFault docket sheet fault = IsReadingFault docket sheet [] fault ⊎ ((fault ≡ files.NoSheet) × HasNoSheet docket sheet)

-- why there is no text for the files; the sheet's file may be missing
abbrev pub IsFilesFault : List ℕ → Option (List ℕ) → FilesFault → Type 0
IsFilesFault docket None fault = IsReadingFault docket [] [] fault
IsFilesFault docket (Some sheet) fault = IsCaseFault docket sheet fault

-- there is a key, and it gives no real names, for this reason
abbrev pub IsOfKey : Option (List ℕ) → (List ℕ → NamesFault → Type 0) → SealFault → Type 0
IsOfKey key IsFault (Key fault) = IsSomeAnd key (λ bytes. IsFault bytes fault)
IsOfKey key IsFault fault = ⊥

-- why there is no text for a case: memory ran out, the key gives no real names, or receipts are wanted and the sheet
-- isn't stable
abbrev pub IsUntold : Wanted → CaseParts → Option (List ℕ) → SealFault → Type 0
IsUntold wanted c key (Secret fault) = ⊥
IsUntold wanted c key (Files fault) = fault ≡ files.Memory
IsUntold wanted c key (Key fault) = IsSomeAnd key (λ bytes. IsNamesFault c.docket bytes fault)
IsUntold wanted c key Unstable = IsTold wanted c false

-- the files give a docket, and the key gives no real names for it, for this reason
pub record IsUnnamed (docket : List ℕ) (sheet key : Option (List ℕ)) (fault : NamesFault) : Type 0 where
  pub d : Contents
  pub read : IsDocketIn docket (unwrap_or sheet []) [] d
  pub is_fault : IsSomeAnd key (λ bytes. IsNamesFault d bytes fault)

-- why there is no text for the files and the key, if the secret is good
abbrev pub IsUnmade : Wanted → List ℕ → Option (List ℕ) → Option (List ℕ) → SealFault → Type 0
IsUnmade wanted docket sheet key (Secret fault) = ⊥
IsUnmade wanted docket sheet key (Files fault) = IsFilesFault docket sheet fault
IsUnmade wanted docket sheet key (Key fault) = IsUnnamed docket sheet key fault
IsUnmade wanted docket sheet key Unstable = IsUnfit wanted docket sheet

-- why the text was not written: the secret's file has no secret, the writer failed, the docket's or the sheet's file or
-- the key is at fault, or receipts are wanted and the sheet isn't stable
abbrev pub IsSealFault : Wanted → List ℕ → Option (List ℕ) → Option (List ℕ) → List ℕ → SealFault → Type 0
IsSealFault wanted docket sheet key secret_text (Secret fault) = secret_of secret_text ≡ Err fault
IsSealFault wanted docket sheet key secret_text (Files fault) = (fault ≡ files.Write) ⊎ IsFilesFault docket sheet fault
IsSealFault wanted docket sheet key secret_text (Key fault) = IsUnnamed docket sheet key fault
IsSealFault wanted docket sheet key secret_text Unstable = IsUnfit wanted docket sheet
