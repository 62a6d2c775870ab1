-- Which audit the words of a command line order.
use Rattle.std.specs.Prelude.{◌≡◌, ◌⊎◌, true, false, codes, List, Option, Some, option_map}
use Rattle.clap.specs.Words.{App, IsAmong, Row, Text, first_of, fault_of, matches_of, new_app, with_rule}
use Rattle.clap.specs.Simple.{on_top}
use Rattle.program_shell.specs.Faults.{IsErrorOf}
use Rattle.program_shell.specs.Flags.{IsFlagged, IsUnflagged, flag_rule, required, word_rule}
use Rattle.program_shell.specs.declared.fault.LineFault.{LineFault}
use Rattle.program_shell.specs.declared.fault.LineFault.TheVariants.{SecondInput}
use Rattle.audit_files.specs.declared.order.Order.{Order}

-- the program's command line; the program's own name isn't among the words
abbrev pub program_app : App
program_app = on_top (λ s. record s { no_binary_name = true; has_version = true }) (new_app (codes "residency-audit"))

-- the program's command line: the docket's file and the sheet's, which have to be named, the journal's file, and the
-- option for facts
abbrev pub audit_app : App
audit_app = with_rule (with_rule (with_rule (with_rule program_app (required (word_rule (codes "docket")))) (required (word_rule (codes "sheet"))))
    (word_rule (codes "journal"))) (flag_rule (codes "facts"))

-- the values name these files, and say whether the facts are wanted
pub record GivesOrder (rows : List Row) (order : Order) : Type 0 where
  pub docket : first_of (codes "docket") rows ≡ Some order.docket.now
  pub sheet : first_of (codes "sheet") rows ≡ Some order.sheet.now
  pub journal : first_of (codes "journal") rows ≡ option_map (λ path. path.now) order.journal
  pub facts : IsFlagged (codes "facts") rows → order.facts ≡ true
  pub no_facts : IsUnflagged (codes "facts") rows → order.facts ≡ false

-- a file is named, and its path is `-`, which stands for standard input
abbrev pub IsInput : Option Text → Type 0
IsInput path = path ≡ Some (codes "-")

-- two or three of the files would come from standard input; `NamesTwice` says this of the values on
-- the command line
abbrev pub IsTwice : Option Text → Option Text → Option Text → Type 0
IsTwice docket sheet journal = (IsInput docket × IsInput sheet) ⊎ ((IsInput docket × IsInput journal) ⊎ (IsInput sheet × IsInput journal))

abbrev pub NamesTwice : List Row → Type 0
NamesTwice rows = IsTwice (first_of (codes "docket") rows) (first_of (codes "sheet") rows) (first_of (codes "journal") rows)

-- the words order this audit
pub record Orders (words : List Text) (order : Order) : Type 0 where
  pub given : GivesOrder (matches_of audit_app words) order
  pub once : NamesTwice (matches_of audit_app words) → ⊥

-- the words order no audit, for this reason: memory ran out, the parser refuses the words, or two files would come from
-- standard input
abbrev pub Refuses : List Text → LineFault → Type 0
Refuses words fault = IsErrorOf (λ kind. IsAmong kind (fault_of audit_app words)) fault ⊎ (NamesTwice (matches_of audit_app words) × (fault ≡ SecondInput))
