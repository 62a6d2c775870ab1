use Rattle.std.proofs.Common.{◌++◌, ℕ, List, map, ap, ◌∙◌, arith}
use Rattle.match_model.proofs.Instances.{acceptable_resident}
use Rattle.settle_law.specs.Stable.{Blocks}
use Rattle.match_audit.proofs.Listings.{Lists_all, Lists_more_row, pair_of}
use Rattle.match_audit.proofs.findings.blocking_pairs.Goals as goal

pub loop-r-preserved : goal.loop-r-preserved
loop-r-preserved c =
    let row : List ℕ = c.in_ok-programmes.programmes.items in
    let found = c.in_ok-programmes.ensures in
    rw (c.in_ok-append_pairs.ensures ∙ ap (λ (ps : List ℕ). c.loop-r.pairs.items ++ map (pair_of c.loop-r.r) ps) c.deref.ensures.value)
    (Lists_more_row (Blocks c.args.inst.now c.args.assignment.now) c.loop-r.r c.loop-r.pairs.items row c.loop-r.invariant found.0 found.1)

pub returns : goal.returns
returns c = Lists_all (Blocks c.args.inst.now c.args.assignment.now) c.loop-r.r c.loop-r.pairs.items c.loop-r.invariant
    (λ r p b. let w = acceptable_resident c.args.inst.now c.residents-r-end.ensures.instance r p b.acceptable in
    let e = c.residents-r-end.ensures.count in let l = c.loop-r-test.false in omega arith)
