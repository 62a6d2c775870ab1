-- How many records and how many listed names a docket may have within the limits of a builder, and the widest of these
-- limits.
use Rattle.std.specs.Prelude.{ℕ, nat_lt, Bool, false, Option, Some, None}
use Rattle.match_model.specs.declared.limits.Limits.{Limits}
use Rattle.match_model.specs.declared.limits.Limits.TheVariants.{Standard, National}

-- the largest number of records
abbrev pub most_records : Limits → ℕ
most_records Standard = 2000000
most_records National = 20000000

-- the largest number of names in all rank lists together, if the limits bound it
abbrev pub most_listed : Limits → Option ℕ
most_listed Standard = None
most_listed National = Some 4000000

-- whether the number is above the bound; no number is, if there is no bound
abbrev pub is_above : Option ℕ → ℕ → Bool
is_above None n = false
is_above (Some most) n = nat_lt most n

-- the widest limits: they accept every docket that some limits accept
abbrev pub widest : Limits
widest = National
