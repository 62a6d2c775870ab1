-- Which order the words of a command line give.
use Rattle.std.specs.Prelude.{◌≡◌, ◌⊎◌, Bool, true, false, codes, List, Option, Some, option_map}
use Rattle.clap.specs.Words.{App, IsAmong, Row, Rule, Text, first_of, fault_of, new_app, subcommand_of, with_rule, with_subcommand}
use Rattle.clap.specs.declared.error.kind.ErrorKind.TheVariants.{MissingSubcommand}
use Rattle.program_shell.specs.Faults.{IsErrorOf}
use Rattle.program_shell.specs.Flags.{of_commands, required, value_rule, word_rule}
use Rattle.program_shell.specs.declared.fault.LineFault.{LineFault}
use Rattle.seal_text.specs.declared.line.Sources.{Sources}
use Rattle.seal_text.specs.declared.line.Order.{Order}
use Rattle.seal_text.specs.declared.line.Order.TheVariants.{Seal, Check, Pair, Pairs}
use Rattle.seal_text.specs.declared.line.Roots.{Roots}
use Rattle.seal_text.specs.declared.compare_line.PublishedRows.{PublishedRows}
use Rattle.seal_text.specs.declared.compare_line.ReceiptPaths.{ReceiptPaths}
use Rattle.seal_text.specs.declared.serve.Wanted.{Wanted}
use Rattle.seal_text.specs.declared.serve.Wanted.TheVariants as wanted

-- the rule of an option with a value; `needed` says whether the option has to be given
abbrev pub option_rule : Text → Bool → Rule
option_rule id needed = record (value_rule id) { required = needed }

-- a command that seals: the secret's file has to be named, and the sheet's file and the key's file may be
abbrev pub sealing_app : Text → App
sealing_app name = with_rule (with_rule (with_rule (new_app name) (option_rule (codes "secret") true)) (option_rule (codes "sheet") false)) (option_rule (codes "key") false)

-- the command that checks a receipt: the root of the lists has to be given, and the root of the result may be
abbrev pub checking_app : App
checking_app = with_rule (with_rule (new_app (codes "check")) (option_rule (codes "lists") true)) (option_rule (codes "result") false)

-- a command that compares: the rows of both roots have to be given
abbrev pub comparing_app : Text → App
comparing_app name = with_rule (with_rule (new_app name) (option_rule (codes "lists") true)) (option_rule (codes "result") true)

-- the command that compares two receipts, whose files have to be named
abbrev pub pair_app : App
pair_app = with_rule (with_rule (comparing_app (codes "pair")) (required (word_rule (codes "resident")))) (required (word_rule (codes "programme")))

-- the command that compares the receipts of a directory, which has to be named
abbrev pub pairs_app : App
pairs_app = with_rule (comparing_app (codes "pairs")) (required (word_rule (codes "directory")))

-- the program's command line with the commands that seal and check, but without those that compare
abbrev pub sealed_app : App
sealed_app = with_subcommand (with_subcommand (with_subcommand (of_commands (codes "residency-seal")) (sealing_app (codes "root")).top) (sealing_app (codes "receipts")).top) checking_app.top

-- the program's command line with all its commands
abbrev pub seal_app : App
seal_app = with_subcommand (with_subcommand sealed_app pair_app.top) pairs_app.top

-- the word of the command that seals
abbrev pub sealing_word : Wanted → Text
sealing_word wanted.Roots = codes "root"
sealing_word wanted.Receipts = codes "receipts"

-- the word of the command for an order
abbrev pub command_word : Order → Text
command_word (Seal wanted files) = sealing_word wanted
command_word (Check roots) = codes "check"
command_word (Pair rows two) = codes "pair"
command_word (Pairs rows directory) = codes "pairs"

-- the values on the command line name these files
pub record GivesFiles (rows : List Row) (files : Sources) : Type 0 where
  pub secret : first_of (codes "secret") rows ≡ Some files.secret.now
  pub sheet : first_of (codes "sheet") rows ≡ option_map (λ path. path.now) files.sheet
  pub key : first_of (codes "key") rows ≡ option_map (λ path. path.now) files.key

-- the values on the command line give the digits of these roots
pub record GivesRoots (rows : List Row) (roots : Roots) : Type 0 where
  pub lists : first_of (codes "lists") rows ≡ Some roots.lists.now
  pub outcome : first_of (codes "result") rows ≡ option_map (λ digits. digits.now) roots.outcome

-- the values on the command line give these rows of roots
pub record GivesRows (given : List Row) (rows : PublishedRows) : Type 0 where
  pub lists : first_of (codes "lists") given ≡ Some rows.lists.now
  pub outcome : first_of (codes "result") given ≡ Some rows.outcome.now

-- the values on the command line name the files of these two receipts
pub record GivesTwo (given : List Row) (two : ReceiptPaths) : Type 0 where
  pub resident : first_of (codes "resident") given ≡ Some two.resident.now
  pub programme : first_of (codes "programme") given ≡ Some two.programme.now

-- the values give the rows and the two receipts
abbrev pub GivesPair : List Row → PublishedRows → ReceiptPaths → Type 0
GivesPair given rows two = GivesRows given rows × GivesTwo given two

-- the values give the rows and name the directory
abbrev pub GivesFolder : List Row → PublishedRows → Text → Type 0
GivesFolder given rows directory = GivesRows given rows × (first_of (codes "directory") given ≡ Some directory)

-- the values don't give both rows of roots and two receipts; `NamesNoFolder` says that they don't give both rows
-- and a directory
abbrev pub NamesNoPair : List Row → Type 0
NamesNoPair given = (rows : PublishedRows) (two : ReceiptPaths) → GivesPair given rows two → ⊥

abbrev pub NamesNoFolder : List Row → Type 0
NamesNoFolder given = (rows : PublishedRows) (directory : Text) → GivesFolder given rows directory → ⊥

-- the values give what the order names
abbrev pub GivesNamed : List Row → Order → Type 0
GivesNamed rows (Seal wanted files) = GivesFiles rows files
GivesNamed rows (Check roots) = GivesRoots rows roots
GivesNamed rows (Pair published two) = GivesPair rows published two
GivesNamed rows (Pairs published directory) = GivesFolder rows published directory.now

-- this command with its values gives the order
pub record IsOrdered (found : Option (Text × List Row)) (order : Order) : Type 0 where
  pub rows : List Row
  pub command : found ≡ Some (command_word order, rows)
  pub named : GivesNamed rows order

-- the words give this order
abbrev pub OrdersSeal : List Text → Order → Type 0
OrdersSeal words = IsOrdered (subcommand_of seal_app words)

-- no order is given by this command with its values
abbrev pub OrdersNothing : Option (Text × List Row) → Type 0
OrdersNothing found = (order : Order) → IsOrdered found order → ⊥

-- the words give no order, for this reason: memory ran out, the parser refuses the words, or they name no command
abbrev pub RefusesSeal : List Text → LineFault → Type 0
RefusesSeal words fault = IsErrorOf (λ kind. IsAmong kind (fault_of seal_app words)) fault
    ⊎ (OrdersNothing (subcommand_of seal_app words) × IsErrorOf (λ kind. kind ≡ MissingSubcommand) fault)
