use Rattle.std.proofs.Common.{ℕ, refl}
use Rattle.std.specs.Global.{Vec}
use Rattle.std.proofs.lemmas.List.{map_push}
use Rattle.seal_text.specs.Grown.{texts_of}
use Rattle.seal_text.proofs.TextFacts.{results_none, results_more}
use Rattle.seal_text.proofs.texts.push_resident_results.Goals as goal

pub loop-r-init : goal.loop-r-init
loop-r-init c = results_none c.args.case.now (texts_of c.args.leaf_texts.now.items)

pub loop-r-preserved : goal.loop-r-preserved
loop-r-preserved c =
    results_more c.args.case.now c.loop-r.r _ _ _ c.in_ok-text.text.items c.loop-r.invariant c.in_ok-text.ensures
    (rw (c.in_ok-push.ensures.items, map_push (λ (v : Vec ℕ). v.items) c.loop-r.leaf_texts.items c.in_ok-text.text) refl)
