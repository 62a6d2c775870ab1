-- The answer about a sheet, and that the first difference of a sheet is at a resident of the
-- docket.
use Rattle.std.proofs.Common.{◌≡◌, ℕ, List, Option, Some}
use Rattle.std.specs.Prelude.{MatchOption}
use Rattle.settle_law.specs.Stable.{IsSettled}
use Rattle.match_audit.specs.Result.{IsUnlikeResult}
use Rattle.docket.specs.Contents.{Contents}
use Rattle.audit_files.specs.Answer.{TellsFirst}

-- a finding about the sheet of a docket is a finding about the docket, which has only this sheet
pub tells_first : (d : Contents) (sheet : List (Option ℕ)) (first : Option ℕ) → Some sheet ≡ d.sheet
    → MatchOption first (IsSettled d.instance sheet) (IsUnlikeResult d.instance sheet) → TellsFirst d first
tells_first d sheet first is unlike other has = let same : sheet ≡ other = cc (is, has) in rw same at unlike
