use Rattle.std.proofs.Common.{◌∙◌, ap, sym, slice_get}
use Rattle.docket.specs.Contents.{Contents}
use Rattle.docket.specs.Texts.{programme_name}
use Rattle.docket.proofs.DocketFacts.{programme_name-is}
use Rattle.docket.proofs.docket.Docket.programme_name.Goals as goal

pub returns : goal.returns
returns c =
    sym (ap (λ (d : Contents). programme_name d c.args.programme) (sym c.self.view_is) ∙ programme_name-is _ c.args.programme c.programme_name.result.now (ap (slice_get c.self.inside.names.programmes) (sym c.programme.view_is) ∙ c.programme_name.ensures))
