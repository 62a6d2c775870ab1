use Rattle.std.proofs.Common.{arith, ap, refl, ◌≡◌, ◌≤◌, ◌∙◌, ℕ, Result, Ok, Err, codes, decimal}
use Rattle.std.proofs.lemmas.Fmt.{parse-decimal}
use Rattle.std.specs.Str.Parse.{ParsesUnsigned}
use Rattle.clap.specs.Words.{found_of}
use Rattle.clap.proofs.WalkLemmas.{one_text-rows}
use Rattle.command_line.proofs.line.workers_of.Goals as goal

-- the number that was parsed, or 0 if there is none
abbrev value_of : Result ℕ (Unit {0}) → ℕ
value_of (Ok n) = n
value_of (Err e) = 0

-- the text of a number up to 8 is parsed as this number, whatever the type of errors
reads : (r : Result ℕ (Unit {0})) (n : ℕ) → n ≤ 8 → ParsesUnsigned 64 10 (decimal n) r → value_of r ≡ n
reads r n most read = ap value_of (parse-decimal 64 n (decimal n) r (omega arith) (omega arith) refl read)

pub returns-in-Some-clause-given : goal.returns-in-Some-clause-given
returns-in-Some-clause-given c n least most given =
    let read = c.in-Some.ensures.value (decimal n) (one_text-rows (found_of c.args.parsed_words.now) (codes "workers") ∙ given) in
    let is : c.in-Some.workers ≡ n = reads (Ok c.in-Some.workers) n most read.0 in
    omega arith

pub returns-in-None-clause-given : goal.returns-in-None-clause-given
returns-in-None-clause-given c n least most given =
    let read = c.in-None.ensures.value (decimal n) (one_text-rows (found_of c.args.parsed_words.now) (codes "workers") ∙ given) in
    let is : 0 ≡ n = reads (Err tt) n most read.1.0 in
    omega arith
