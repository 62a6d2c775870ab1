use Rattle.std.proofs.Common.{ℕ, refl}
use Rattle.std.specs.Global.{Vec}
use Rattle.std.proofs.lemmas.List.{map_push}
use Rattle.seal_text.specs.Texts.{resident_lists}
use Rattle.seal_text.proofs.Steps.{pushed_next}
use Rattle.seal_text.proofs.texts.push_resident_lists.Goals as goal

pub loop-r-preserved : goal.loop-r-preserved
loop-r-preserved c = λ draft are.
    pushed_next (resident_lists c.args.docket.now draft c.args.real_names.now) _ _ _ c.loop-r.r (c.loop-r.invariant draft are)
    (rw (c.in_ok-push.ensures.items, map_push (λ (v : Vec ℕ). v.items) c.loop-r.leaf_texts.items c.in_ok-text.text, c.in_ok-text.ensures draft are) refl)
