-- The lists as the members wrote them. The instance of a match is made from these lists.
use Rattle.std.specs.Prelude.{◌≡◌, ℕ, List}
use Rattle.match_model.specs.Instance.{Instance}
use Rattle.match_model.specs.Draft.{Draft, given_lists, instance_of}

-- for each member the list that the member wrote, or an empty list if the member gave none
pub record Written : Type 0 where
  pub programme_lists : List (List ℕ)
  pub resident_lists : List (List ℕ)

-- the written lists in a builder's input
abbrev pub written_of : Draft → Written
written_of d = record { programme_lists = given_lists d.programme_lists; resident_lists = given_lists d.resident_lists }

-- the instance and the written lists come from the same builder's input
pub record AreWritten (inst : Instance) (written : Written) : Type 0 where
  pub draft : Draft
  pub made : inst ≡ instance_of draft
  pub lists : written ≡ written_of draft
