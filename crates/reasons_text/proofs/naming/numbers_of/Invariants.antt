use Rattle.std.proofs.Common.{◌≡◌, List, ℕ}
use Rattle.reasons_text.specs.Keys.{first_named}
use Rattle.reasons_text.specs.Numbers.{number_in}
use Rattle.reasons_text.proofs.naming.numbers_of.Given as goal

abbrev pub invariant-loop-number : goal.invariant-loop-number
invariant-loop-number l = (name : List ℕ) → number_in l.numbers name ≡ first_named l.docket l.side name l.number
