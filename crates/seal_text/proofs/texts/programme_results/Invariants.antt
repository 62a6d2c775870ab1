use Rattle.seal_text.specs.Grown.{texts_of}
use Rattle.seal_text.proofs.TextFacts.{AreSoFar}
use Rattle.seal_text.proofs.texts.programme_results.Given as goal

abbrev pub invariant-loop-r : goal.invariant-loop-r
invariant-loop-r l = AreSoFar l.case.docket l.case.sheet l.r (texts_of l.leaf_texts.items)
