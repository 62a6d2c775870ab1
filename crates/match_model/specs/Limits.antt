-- The limits on the size of a builder's input and of the instance that the builder makes.
use Rattle.std.specs.Prelude.{ℕ, ◌≤◌, length}
use Rattle.match_model.specs.declared.limits.Limits.{Limits}
use Rattle.match_model.specs.Instance.{Instance, pair_count}
use Rattle.match_model.specs.declared.limits.Limits.TheVariants.{Standard, National}

-- the largest number of programmes
abbrev pub most_programmes : Limits → ℕ
most_programmes Standard = 2000
most_programmes National = 10000

-- the largest number of residents
abbrev pub most_residents : Limits → ℕ
most_residents Standard = 20000
most_residents National = 100000

-- the largest number of acceptable pairs
abbrev pub most_pairs : Limits → ℕ
most_pairs Standard = 200000
most_pairs National = 2000000

-- the instance has at most as many programmes, residents and acceptable pairs as the limits allow
pub record IsWithin (limits : Limits) (inst : Instance) : Type 0 where
  pub few_programmes : length inst.quotas ≤ most_programmes limits
  pub few_residents : length inst.resident_lists ≤ most_residents limits
  pub few_pairs : pair_count inst ≤ most_pairs limits
