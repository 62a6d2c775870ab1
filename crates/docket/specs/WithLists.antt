-- How a docket is read together with its lists as they were written.
use Rattle.std.specs.Prelude.{◌≡◌, ℕ, ◌<◌, Bool, true, false, Option, Some, None, option_map, unwrap_or, List, [], length, map, drop, find, nat_lt}
use Rattle.std.specs.List.{list_all}
use Rattle.match_model.specs.declared.limits.Limits.{Limits}
use Rattle.match_model.specs.declared.limits.Limits.TheVariants.{Standard}
use Rattle.match_model.specs.Instance.{list_at}
use Rattle.match_model.specs.Written.{Written, written_of}
use Rattle.docket.specs.Fields.{is_row_of}
use Rattle.records.specs.Reading.{Fields, rows_of, AreAll}
use Rattle.docket.specs.Contents.{Contents, contents_of, draft_of}
use Rattle.docket.specs.Passes.{fault_in}
use Rattle.docket.specs.Texts.{programme_name, resident_name}
use Rattle.docket.specs.declared.vocabulary.TheConstants.{RESIDENT_LIST}

-- the fields after the name in the record of this kind with this name; an empty list if there is no such
-- record
abbrev pub fields_after : ℕ → List ℕ → List Fields → List (List ℕ)
fields_after kind name rows = drop 2 (unwrap_or (find (is_row_of kind name) rows) [])

-- the rank lists as they were written, where a member without a list has an empty list; and for each programme its
-- list, or none
abbrev pub KeptLists : Type 0
KeptLists = Written × List (Option (List ℕ))

-- the rank lists in the records, if lists are kept
abbrev pub lists_if : Bool → List Fields → Option KeptLists
lists_if true rows = Some (written_of (draft_of rows), (draft_of rows).programme_lists)
lists_if false rows = None

-- The docket of these records, which have no fault within these limits, and their lists if lists are kept. If the bytes
-- are known, the records are all records in the bytes.
pub record IsReadAs (limits : Limits) (bytes : Option (List ℕ)) (keeps : Bool) (docket : Contents) (kept : Option KeptLists) : Type 0 where
  pub rows : List Fields
  pub all : AreAll (option_map rows_of bytes) rows
  pub faultless : fault_in limits rows ≡ None
  pub docket_is : docket ≡ contents_of rows
  pub lists_are : kept ≡ lists_if keeps rows

-- The docket of these records, which have no fault within these limits, and their lists. If the bytes are known, the
-- records are all records in the bytes. The instance is made of the lists. Each resident's list names the programmes of
-- that resident's R record.
pub record IsReadWithin (limits : Limits) (bytes : Option (List ℕ)) (docket : Contents) (written : Written) : Type 0 where
  pub rows : List Fields
  pub all : AreAll (option_map rows_of bytes) rows
  pub faultless : fault_in limits rows ≡ None
  pub docket_is : docket ≡ contents_of rows
  pub written_is : written ≡ written_of (draft_of rows)
  pub names : (r : ℕ) → r < length docket.residents →
      map (programme_name docket) (list_at written.resident_lists r) ≡ fields_after RESIDENT_LIST (resident_name docket r) rows
  pub members : (r : ℕ) → r < length docket.residents → list_all (λ p. nat_lt p (length docket.programmes)) (list_at written.resident_lists r) ≡ true

-- the docket that is read within the standard limits, and its lists
abbrev pub IsReadWithLists : Option (List ℕ) → Contents → Written → Type 0
IsReadWithLists bytes docket written = IsReadWithin Standard bytes docket written
