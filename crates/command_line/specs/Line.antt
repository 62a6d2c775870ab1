-- Which order the words of a command line give.
use Rattle.std.specs.Prelude.{◌≡◌, ◌≤◌, ◌⊎◌, ℕ, true, codes, decimal, List, [], ◌∷◌, Option, Some, None}
use Rattle.clap.specs.Words.{App, IsAmong, Row, Rule, Text, first_of, fault_of, new_app, new_rule, one_of, subcommand_of, with_rule, with_subcommand}
use Rattle.clap.specs.Simple.{new_shape}
use Rattle.clap.specs.declared.error.kind.ErrorKind.TheVariants.{MissingSubcommand}
use Rattle.clap.specs.declared.builder.value_parser.ValueParser.TheVariants.{Unsigned}
use Rattle.docket.specs.Words.{capacity_of}
use Rattle.exchange_core.specs.declared.event.Capacity.{Capacity}
use Rattle.program_shell.specs.Faults.{IsErrorOf}
use Rattle.program_shell.specs.Flags.{IsFlagged, IsUnflagged, flag_rule, of_commands}
use Rattle.program_shell.specs.declared.fault.LineFault.{LineFault}
use Rattle.program_shell.specs.declared.fault.LineFault.TheVariants.{BadCapacity}
use Rattle.command_line.specs.declared.options.JournalForm.{JournalForm}
use Rattle.command_line.specs.declared.options.JournalForm.TheVariants.{Absent, Plain, ByWorker}
use Rattle.command_line.specs.declared.options.MatchOptions.{MatchOptions}
use Rattle.command_line.specs.declared.options.Order.{Order}
use Rattle.command_line.specs.declared.options.Order.TheVariants.{Match, Audit, Replay}

-- the rule of an option with a value and a default
abbrev pub valued_rule : Text → Text → Rule
valued_rule id value = record (new_rule id) { long = Some id; value_names = 1; defaults = value ∷ [] }

-- the rule of the option for the number of workers, from 1 to 8, with the default 2
abbrev pub workers_rule : Rule
workers_rule = record (valued_rule (codes "workers") (codes "2")) { parser = Some (Unsigned 1 8) }

-- the command that runs a match, with its four options
abbrev pub match_app : App
match_app = with_rule (with_rule (with_rule (with_rule (new_app (codes "match")) workers_rule)
    (valued_rule (codes "capacity") (codes "full"))) (flag_rule (codes "journal"))) (flag_rule (codes "journal-by-worker"))

-- the program's command line with its three commands
abbrev pub commands_app : App
commands_app = with_subcommand (with_subcommand (with_subcommand (of_commands (codes "residency")) match_app.top) (new_shape (codes "audit"))) (new_shape (codes "replay"))

-- the word of the command for an order
abbrev pub command_of : Order → Text
command_of (Match o) = codes "match"
command_of Audit = codes "audit"
command_of Replay = codes "replay"

-- if the values on the command line have a number from 1 to 8 for `workers`, it is this number
abbrev pub GivesWorkers : List Row → ℕ → Type 0
GivesWorkers rows workers = (n : ℕ) → 1 ≤ n → n ≤ 8 → one_of (codes "workers") rows ≡ Some (decimal n) → workers ≡ n

-- if the values on the command line have a text for `capacity`, this capacity has this text
abbrev pub GivesRoom : List Row → Capacity → Type 0
GivesRoom rows room = (text : Text) → first_of (codes "capacity") rows ≡ Some text → capacity_of text ≡ Some room

-- The values on the command line ask for this form of the journal. If they ask for both forms, it is the form by
-- worker. If they ask for no form, there is no journal.
pub record GivesJournal (rows : List Row) (form : JournalForm) : Type 0 where
  pub by_worker : IsFlagged (codes "journal-by-worker") rows → form ≡ ByWorker
  pub plain : IsUnflagged (codes "journal-by-worker") rows → IsFlagged (codes "journal") rows → form ≡ Plain
  pub absent : IsUnflagged (codes "journal-by-worker") rows → IsUnflagged (codes "journal") rows → form ≡ Absent

-- the values on the command line give these options for a match
pub record GivesOptions (rows : List Row) (o : MatchOptions) : Type 0 where
  pub workers : GivesWorkers rows o.workers
  pub capacity : GivesRoom rows o.capacity
  pub journal : GivesJournal rows o.journal

-- the values on the command line fit this order; for a match they give its options
abbrev pub GivesOrder : List Row → Order → Type 0
GivesOrder rows (Match o) = GivesOptions rows o
GivesOrder rows Audit = Unit {0}
GivesOrder rows Replay = Unit {0}

-- the command is that of the order, and its values fit the order
pub record IsNamed (found : Option (Text × List Row)) (order : Order) : Type 0 where
  pub rows : List Row
  pub command : found ≡ Some (command_of order, rows)
  pub options : GivesOrder rows order

-- the words give this order
abbrev pub Orders : List Text → Order → Type 0
Orders words = IsNamed (subcommand_of commands_app words)

-- the command is a match, and its text for the mailboxes' capacity stands for no capacity
pub record HasBadRoom (found : Option (Text × List Row)) : Type 0 where
  pub rows : List Row
  pub command : found ≡ Some (codes "match", rows)
  pub text : Text
  pub room : first_of (codes "capacity") rows ≡ Some text
  pub bad : capacity_of text ≡ None

-- the command, if there is one, is not `match`, not `audit` and not `replay`
abbrev pub NamesNone : Option (Text × List Row) → Type 0
NamesNone found = (order : Order) (rows : List Row) → found ≡ Some (command_of order, rows) → ⊥

-- the words give no order, for this reason: memory ran out, the parser refuses the words, they name no command, or the
-- capacity is bad
abbrev pub Refuses : List Text → LineFault → Type 0
Refuses words fault = IsErrorOf (λ kind. IsAmong kind (fault_of commands_app words)) fault
    ⊎ ((NamesNone (subcommand_of commands_app words) × IsErrorOf (λ kind. kind ≡ MissingSubcommand) fault)
    ⊎ (HasBadRoom (subcommand_of commands_app words) × (fault ≡ BadCapacity)))
