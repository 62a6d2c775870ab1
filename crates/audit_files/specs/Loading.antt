-- The bytes of the files that an order names.
use Rattle.std.specs.Prelude.{◌≡◌, ◌⊎◌, ℕ, Option, Some, List, option_map}
use Rattle.program_shell.specs.Loading.{AreBytesIf, AreBytesOf}
use Rattle.audit_files.specs.Line.{IsInput}
use Rattle.audit_files.specs.declared.order.Order.{Order}

-- these are the bytes of the files that the order names, and there is a journal exactly if one is
-- named
pub record AreFiles (order : Order) (input : Option (List ℕ)) (docket sheet : List ℕ) (journal : Option (List ℕ)) : Type 0 where
  pub docket_is : AreBytesOf order.docket.now input docket
  pub sheet_is : AreBytesOf order.sheet.now input sheet
  pub journal_is : AreBytesIf (option_map (λ path. path.now) order.journal) input journal

-- one of the files is standard input
abbrev pub NamesInput : Order → Type 0
NamesInput order = IsInput (Some order.docket.now) ⊎ (IsInput (Some order.sheet.now) ⊎ IsInput (option_map (λ path. path.now) order.journal))
