-- Laws about what a match wrote. Each law is proved as the contract of a function with a like name: `MatchLaw` as
-- the contract of `law_match`.
use Rattle.std.specs.Prelude.{◌≡◌, ℕ, Option, Some, List, []}
use Rattle.match_model.specs.declared.limits.Limits.TheVariants.{National}
use Rattle.command_line.specs.declared.options.MatchOptions.{MatchOptions}
use Rattle.command_line.specs.declared.options.JournalForm.TheVariants.{Absent}
use Rattle.command_line.specs.declared.options.Order.TheVariants.{Match}
use Rattle.residency.specs.Serving.{AreDocket, WritesMatch}
use Rattle.residency.specs.Program.{EndsServing, EndsServingWithin}
use Rattle.match_theorem.specs.Theorem.{market_of, WritesNationalResult, WritesResult}

-- the sheet of the docket's result was appended, and after it nothing unless a journal is wanted
pub record WritesSheet (bytes : List ℕ) (o : MatchOptions) (old new : Option (List ℕ)) : Type 0 where
  pub journal : List ℕ
  pub no_more : o.journal ≡ Absent → journal ≡ []
  pub writes : WritesResult (market_of bytes) journal old new

-- if a match over the docket with these bytes met its contract, it wrote the sheet of the docket's result
abbrev pub MatchLaw : Type 0
MatchLaw =
    (bytes : List ℕ) (o : MatchOptions) (old new : Option (List ℕ)) →
    AreDocket (λ d. WritesMatch d o old new) bytes →
    WritesSheet bytes o old new

-- if the program served a match over these bytes with status 0, the program wrote the sheet of the docket's result
abbrev pub ProgramLaw : Type 0
ProgramLaw =
    (bytes : List ℕ) (o : MatchOptions) (old new : Option (List ℕ)) →
    EndsServing (Match o) (Some bytes) old new 0 →
    WritesSheet bytes o old new

-- the sheet of the docket's result was appended, within the national limits, and after it nothing unless a journal
-- is wanted
pub record WritesNationalSheet (bytes : List ℕ) (o : MatchOptions) (old new : Option (List ℕ)) : Type 0 where
  pub journal : List ℕ
  pub no_more : o.journal ≡ Absent → journal ≡ []
  pub writes : WritesNationalResult (market_of bytes) journal old new

-- if the national program served a match over these bytes with status 0, it wrote the sheet of the docket's result
abbrev pub NationalLaw : Type 0
NationalLaw =
    (bytes : List ℕ) (o : MatchOptions) (old new : Option (List ℕ)) →
    EndsServingWithin National (Match o) (Some bytes) old new 0 →
    WritesNationalSheet bytes o old new
