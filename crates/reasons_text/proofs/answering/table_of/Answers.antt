use Rattle.std.proofs.Common.{refl}
use Rattle.reasons_text.specs.Naming.{naming_of}
use Rattle.reasons_text.specs.Texts.{IsTable}
use Rattle.reasons_text.proofs.LineFacts.{of_new}
use Rattle.reasons_text.proofs.answering.table_of.Goals as goal

pub returns-in-Ok : goal.returns-in-Ok
returns-in-Ok c =
    of_new (IsTable c.args.case.now (naming_of c.args.manner.now.names) c.args.manner.now.without_ranks) _ _ _ refl c.new-table_text.ensures.items c.in-Ok.ensures
