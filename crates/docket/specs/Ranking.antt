-- What the builder keeps during the second pass over the records, while the lists are added.
use Rattle.std.specs.Prelude.{◌≡◌, List, codes}
use Rattle.match_model.specs.Draft.{Draft}
use Rattle.records.specs.Reading.{Fields}
use Rattle.docket.specs.Contents.{programmes_of, residents_of, quotas_of, lists_of, withdrawn_of}
use Rattle.docket.specs.declared.vocabulary.TheConstants.{PROGRAMME_LIST, RESIDENT_LIST}

-- the builder has each programme's quota, and the lists and withdrawals of the finished rows
pub record IsRanked (builder : Draft) (rows done : List Fields) : Type 0 where
  pub quotas : builder.quotas ≡ quotas_of rows
  pub programme_lists : builder.programme_lists ≡ lists_of PROGRAMME_LIST (programmes_of rows) (residents_of rows) done
  pub resident_lists : builder.resident_lists ≡ lists_of RESIDENT_LIST (residents_of rows) (programmes_of rows) done
  pub programmes_withdrawn : builder.programmes_withdrawn ≡ withdrawn_of (codes "P") (programmes_of rows) done
  pub residents_withdrawn : builder.residents_withdrawn ≡ withdrawn_of (codes "R") (residents_of rows) done
