use Rattle.std.proofs.Common.{refl}
use Rattle.seal_text.specs.Texts.{IsResidentResult}
use Rattle.seal_text.proofs.TextFacts.{of_new}
use Rattle.seal_text.proofs.texts.resident_result.Goals as goal

pub returns-in-Ok : goal.returns-in-Ok
returns-in-Ok c = of_new (IsResidentResult c.args.case.now c.args.resident) _ _ _ refl c.new-text.ensures.items c.in-Ok.ensures
