use Rattle.std.proofs.Common.{◌∙◌, ap, sym, slice_get}
use Rattle.docket.specs.Contents.{Contents}
use Rattle.docket.specs.Texts.{resident_name}
use Rattle.docket.proofs.DocketFacts.{resident_name-is}
use Rattle.docket.proofs.docket.Docket.resident_name.Goals as goal

pub returns : goal.returns
returns c =
    sym (ap (λ (d : Contents). resident_name d c.args.resident) (sym c.self.view_is) ∙ resident_name-is _ c.args.resident c.resident_name.result.now (ap (slice_get c.self.inside.names.residents) (sym c.resident.view_is) ∙ c.resident_name.ensures))
