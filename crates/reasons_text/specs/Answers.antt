-- What a resident learns about each programme of the R record.
use Rattle.std.specs.Prelude.{◌≡◌, ℕ, Bool, true, false, Option, Some, None, List, codes, length, map, slice_get}
use Rattle.match_model.specs.Instance.{list_at}
use Rattle.match_model.specs.Written.{Written}
use Rattle.match_model.specs.declared.limits.Limits.{Limits}
use Rattle.match_reasons.specs.Reason.{AreTaken, IsFirst}
use Rattle.match_reasons.specs.declared.taken.Taken.{Taken}
use Rattle.match_reasons.specs.declared.reason.Why.{Why}
use Rattle.match_reasons.specs.declared.reason.Why.TheVariants.{Withdrawn, NotListed, NotRanked, Matched, PrefersOwn, Full, Blocking}
use Rattle.docket.specs.Contents.{Contents}
use Rattle.docket.specs.Fields.{lone_byte}
use Rattle.docket.specs.Texts.{programme_name, resident_name}
use Rattle.docket.specs.WithLists.{IsReadWithin, fields_after}

-- a docket with its sheet and its lists as written; `takens` says for some first programmes, or for all, how their
-- places are taken
pub record CaseParts : Type 0 where
  pub docket : Contents
  pub sheet : List (Option ℕ)
  pub written : Written
  pub takens : List Taken

abbrev pub case_of : Contents → List (Option ℕ) → Written → List Taken → CaseParts
case_of docket sheet written takens = record { docket = docket; sheet = sheet; written = written; takens = takens }

-- the docket was read with these lists, within some limits
pub record WasRead (d : Contents) (written : Written) : Type 0 where
  pub limits : Limits
  pub read : IsReadWithin limits None d written

-- the docket was read with these lists within some limits, and the sheet is the docket's
pub record IsCase (c : CaseParts) : Type 0 where
  pub limits : Limits
  pub has_sheet : c.docket.sheet ≡ Some c.sheet
  pub read : IsReadWithin limits None c.docket c.written
  pub taken : AreTaken c.written c.sheet c.takens

-- the names of these programmes
abbrev pub names_of : Contents → List ℕ → List (List ℕ)
names_of d programmes = map (programme_name d) programmes

-- these are the programmes in resident r's R record, in order, whichever bytes and limits the docket was read
-- with
abbrev pub AreOfRecord : Contents → Written → ℕ → List ℕ → Type 0
AreOfRecord d written r programmes = (limits : Limits) (bytes : Option (List ℕ)) (read : IsReadWithin limits bytes d written)
    → names_of d programmes ≡ fields_after (lone_byte (codes "R")) (resident_name d r) read.rows

-- the answer is the first possible answer that is true of r and p
abbrev pub IsAnswer : CaseParts → ℕ → ℕ → Why → Type 0
IsAnswer c r p reason =
    IsFirst c.docket.instance (list_at c.written.resident_lists r) (list_at c.written.programme_lists p) c.sheet r p reason

-- each of these programmes has an answer: the first possible answer that is true of r and the programme
abbrev pub AreFirst : CaseParts → ℕ → List ℕ → List Why → Type 0
AreFirst c r programmes reasons =
    (i p : ℕ) (reason : Why) → slice_get programmes i ≡ Some p → slice_get reasons i ≡ Some reason → IsAnswer c r p reason

-- r gets one answer for each programme on r's list, in order; each is the first possible answer
-- that is true
pub record AreAnswers (c : CaseParts) (r : ℕ) (programmes : List ℕ) (reasons : List Why) : Type 0 where
  pub listed : programmes ≡ list_at c.written.resident_lists r
  pub each : length reasons ≡ length programmes
  pub first : AreFirst c r programmes reasons

-- whether the answer says that the programme ranked the resident
abbrev pub ranked_back : Why → Bool
ranked_back Withdrawn = false
ranked_back NotListed = false
ranked_back NotRanked = false
ranked_back Matched = true
ranked_back (PrefersOwn own own_rank rank) = true
ranked_back (Full rank last_rank quota) = true
ranked_back Blocking = true

-- whether the answer is a withdrawal
abbrev pub withdrew : Why → Bool
withdrew Withdrawn = true
withdrew NotListed = false
withdrew NotRanked = false
withdrew Matched = false
withdrew (PrefersOwn own own_rank rank) = false
withdrew (Full rank last_rank quota) = false
withdrew Blocking = false
