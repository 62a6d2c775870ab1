use Rattle.std.proofs.Common.{◌≡◌, length}
use Rattle.seal_text.proofs.directory.load_files.Given as goal

abbrev pub invariant-loop-k : goal.invariant-loop-k
invariant-loop-k g l = length l.files.items ≡ l.k
