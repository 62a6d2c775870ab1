-- What a scheduler keeps.
use Rattle.std.specs.Prelude.{◌≡◌, ℕ, ◌+◌, ◌<◌, ◌^◌, Bool, length}
use Rattle.desk_scheduler.specs.Desks.{Desks}

-- the desks of the residents and of the programmes, how many workers wait for a desk, and whether the run ends
pub record Schedule : Type 0 where
  pub residents : Desks
  pub programmes : Desks
  pub waiting : ℕ
  pub ended : Bool

-- residents' desks are numbered from 0 and programmes' desks from `first_programme`, and all numbers have 32
-- bits
pub record IsNumbered (residents programmes : Desks) (first_programme : ℕ) : Type 0 where
  pub first : first_programme ≡ length residents.places
  pub fits : length residents.places + length programmes.places < 2 ^ 32
