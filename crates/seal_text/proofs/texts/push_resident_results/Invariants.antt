use Rattle.seal_text.specs.Grown.{texts_of}
use Rattle.seal_text.specs.Texts.{PushesResults}
use Rattle.seal_text.proofs.texts.push_resident_results.Given as goal

abbrev pub invariant-loop-r : goal.invariant-loop-r
invariant-loop-r l = PushesResults l.case l.r (texts_of l.fn.leaf_texts.items) (texts_of l.leaf_texts.items)
