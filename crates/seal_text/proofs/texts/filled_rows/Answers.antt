use Rattle.std.proofs.Common.{ℕ, [], refl}
use Rattle.std.specs.Global.{Vec}
use Rattle.std.proofs.lemmas.List.{map_push}
use Rattle.docket.specs.Texts.{filled_row}
use Rattle.seal_text.proofs.Steps.{pushed_next}
use Rattle.seal_text.proofs.texts.filled_rows.Goals as goal

pub loop-p-preserved : goal.loop-p-preserved
loop-p-preserved c =
    pushed_next (filled_row c.args.case.now.docket c.args.case.now.sheet) [] _ _ c.loop-p.p c.loop-p.invariant
    (rw (c.in_ok-push.ensures.items, map_push (λ (v : Vec ℕ). v.items) c.loop-p.leaf_texts.items c.put_filled.new.leaf_text, c.in_ok-put_filled.ensures, c.new-text.ensures.items, c.docket-docket.ensures, c.filled.ensures) refl)
