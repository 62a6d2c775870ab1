-- The limits on programmes, residents and pairs fit into the types of numbers that the code uses.
use Rattle.std.proofs.Common.{◌≤◌, arith}
use Rattle.match_model.specs.Limits.{most_programmes, most_residents, most_pairs}
use Rattle.match_model.specs.declared.limits.Limits.{Limits}
use Rattle.match_model.specs.declared.limits.Limits.TheVariants.{Standard, National}
use Rattle.match_model.specs.declared.limits.TheConstants.{MAX_PROGRAMMES, MAX_RESIDENTS, MAX_PAIRS}

pub programmes_bounded : (limits : Limits) → most_programmes limits ≤ MAX_PROGRAMMES
programmes_bounded Standard = omega arith
programmes_bounded National = omega arith

pub residents_bounded : (limits : Limits) → most_residents limits ≤ MAX_RESIDENTS
residents_bounded Standard = omega arith
residents_bounded National = omega arith

pub pairs_bounded : (limits : Limits) → most_pairs limits ≤ MAX_PAIRS
pairs_bounded Standard = omega arith
pairs_bounded National = omega arith
