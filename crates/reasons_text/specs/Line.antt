-- Which question the words of a command line ask.
use Rattle.std.specs.Prelude.{◌≡◌, ◌≢◌, ◌⊎◌, true, false, codes, List, Option, Some, None, option_map}
use Rattle.clap.specs.Words.{App, IsAmong, Row, Text, first_of, fault_of, matches_of, new_app, with_rule}
use Rattle.clap.specs.Simple.{on_top}
use Rattle.clap.specs.declared.error.kind.ErrorKind.TheVariants.{ArgumentConflict, MissingRequiredArgument}
use Rattle.program_shell.specs.Faults.{IsErrorOf}
use Rattle.program_shell.specs.Flags.{IsFlagged, IsUnflagged, flag_rule, value_rule, word_rule}
use Rattle.program_shell.specs.declared.fault.LineFault.{LineFault}
use Rattle.reasons_text.specs.declared.question.Asked.{Asked}
use Rattle.reasons_text.specs.declared.question.Asked.TheVariants as asked
use Rattle.reasons_text.specs.declared.question.Question.{Question}

-- the program's command line; the program's own name isn't among the words
abbrev pub program_app : App
program_app = on_top (λ s. record s { no_binary_name = true; has_version = true }) (new_app (codes "residency-why"))

-- the program's command line with its two words and its two flags; `why_app` also has its two options for files
abbrev pub flagged_app : App
flagged_app = with_rule (with_rule (with_rule (with_rule program_app (word_rule (codes "resident"))) (word_rule (codes "programme")))
    (flag_rule (codes "all"))) (flag_rule (codes "without-ranks"))

abbrev pub why_app : App
why_app = with_rule (with_rule flagged_app (value_rule (codes "key"))) (value_rule (codes "sheet"))

-- The question that a resident's name, and perhaps a programme's name, on a command line ask. Such a question is
-- never about all.
abbrev pub IsAskedBy : Option Text → Option Text → Asked → Type 0
IsAskedBy resident programme asked.AllResidents = ⊥
IsAskedBy resident programme (asked.Resident name) = (resident ≡ Some name.now) × (programme ≡ None)
IsAskedBy resident programme (asked.Pair name other) = (resident ≡ Some name.now) × (programme ≡ Some other.now)

-- the values on the command line ask this question
pub record GivesQuestion (rows : List Row) (question : Question) : Type 0 where
  pub all : IsFlagged (codes "all") rows → question.asked ≡ asked.AllResidents
  pub one : IsUnflagged (codes "all") rows → IsAskedBy (first_of (codes "resident") rows) (first_of (codes "programme") rows) question.asked
  pub without_ranks : IsFlagged (codes "without-ranks") rows → question.without_ranks ≡ true
  pub with_ranks : IsUnflagged (codes "without-ranks") rows → question.without_ranks ≡ false
  pub key : option_map (λ path. path.now) question.key ≡ first_of (codes "key") rows
  pub sheet : option_map (λ path. path.now) question.sheet ≡ first_of (codes "sheet") rows

-- the words ask this question
abbrev pub Asks : List Text → Question → Type 0
Asks words = GivesQuestion (matches_of why_app words)

-- the values ask about both a resident and all, or about nobody
pub record AsksNone (rows : List Row) : Type 0 where
  pub both : IsFlagged (codes "all") rows → first_of (codes "resident") rows ≢ None
  pub neither : IsUnflagged (codes "all") rows → first_of (codes "resident") rows ≡ None

-- the words ask no question, for this reason: memory ran out, the parser refuses the words, or the words ask about
-- nobody or about too much
abbrev pub Refuses : List Text → LineFault → Type 0
Refuses words fault = IsErrorOf (λ kind. IsAmong kind (fault_of why_app words)) fault
    ⊎ (AsksNone (matches_of why_app words) × IsErrorOf (λ kind. (kind ≡ ArgumentConflict) ⊎ (kind ≡ MissingRequiredArgument)) fault)
