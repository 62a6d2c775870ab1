-- The rules of words and options.
use Rattle.std.specs.Prelude.{◌≡◌, codes, List, Some, true}
use Rattle.clap.specs.Words.{App, Row, Rule, Text, new_app, new_rule, one_of}
use Rattle.clap.specs.Simple.{on_top}
use Rattle.clap.specs.declared.builder.action.ArgAction.TheVariants.{SetTrue}

-- the rule of a word that isn't an option
abbrev pub word_rule : Text → Rule
word_rule id = record (new_rule id) { value_names = 1 }

-- the rule of an option with a value
abbrev pub value_rule : Text → Rule
value_rule id = record (word_rule id) { long = Some id }

-- the rule, but with its word or option required
abbrev pub required : Rule → Rule
required rule = record rule { required = true }

-- the rule of an option without a value
abbrev pub flag_rule : Text → Rule
flag_rule id = record (new_rule id) { long = Some id; action = Some SetTrue }

-- the flag is among the words; `IsUnflagged` says that it isn't
abbrev pub IsFlagged : Text → List Row → Type 0
IsFlagged id rows = one_of id rows ≡ Some (codes "true")

abbrev pub IsUnflagged : Text → List Row → Type 0
IsUnflagged id rows = one_of id rows ≡ Some (codes "false")

-- the command line of a program that needs a command, before its commands are added; the program's own name isn't
-- among the words
abbrev pub of_commands : Text → App
of_commands name = on_top (λ s. record s { no_binary_name = true; has_version = true; subcommand_required = true }) (new_app name)
