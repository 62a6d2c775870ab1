-- An instance together with the lists of which it was made.
use Rattle.match_model.specs.Instance.{Instance}
use Rattle.match_model.specs.Written.{AreWritten, Written}

-- an instance, and each member's list as it was written
pub record ListedParts : Type 0 where
  pub instance : Instance
  pub written : Written

abbrev pub listed_of : Instance → Written → ListedParts
listed_of inst written = record { instance = inst; written = written }

-- the instance is made of these very lists
abbrev pub AreItsLists : ListedParts → Type 0
AreItsLists l = AreWritten l.instance l.written
