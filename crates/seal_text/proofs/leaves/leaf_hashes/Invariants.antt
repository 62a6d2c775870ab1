use Rattle.std.proofs.Common.{◌≡◌, take}
use Rattle.seal_text.specs.Grown.{texts_of}
use Rattle.seal_text.specs.Sealed.{hashes_of}
use Rattle.seal_text.proofs.leaves.leaf_hashes.Given as goal

abbrev pub invariant-loop-i : goal.invariant-loop-i
invariant-loop-i l = l.hashes.items ≡ hashes_of l.secret l.section (take l.i (texts_of l.leaf_texts))
