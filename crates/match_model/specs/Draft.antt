-- The input of a builder, the instance that the builder makes, and the first fault of each call.
use Rattle.std.specs.Prelude.{◌≡◌, ℕ, ◌<◌, ◌≤◌, nat_lt, nat_le, not, ◌&&◌, ◌⊎◌, if◌then◌else◌, Bool, true, false, Option, Some, None, Result, Ok, Err, List, [], ◌∷◌, ◌++◌, length, map, unwrap_or, slice_index_or, slice_set, is_some}
use Rattle.std.specs.List.{filter, list_all, All, enumerate_from, slice_range}
use Rattle.std.specs.Option.{option_or}
use Rattle.match_model.specs.Ranking.{is_listed}
use Rattle.match_model.specs.Limits.{most_programmes, most_residents, most_pairs}
use Rattle.match_model.specs.declared.limits.Limits.{Limits}
use Rattle.match_model.specs.Instance.{Instance, list_at, is_withdrawn, pair_count}
use Rattle.match_model.specs.declared.limits.TheConstants.{MAX_QUOTA}
use Rattle.match_model.specs.declared.fault.ModelFault.{ModelFault}
use Rattle.match_model.specs.declared.fault.ModelFault.TheVariants.{TooManyProgrammes, TooManyResidents, QuotaTooLarge, NoSuchMember, ListGivenTwice, ListedTwice, TooManyPairs, Memory, WithdrawnTwice}
use Rattle.match_model.specs.Fault.{Answers}

-- a builder's input: its limits, each programme's quota, each member's list or none, and whether each member is
-- withdrawn
pub record Draft : Type 0 where
  pub limits : Limits
  pub quotas : List ℕ
  pub programme_lists : List (Option (List ℕ))
  pub resident_lists : List (Option (List ℕ))
  pub programmes_withdrawn : List Bool
  pub residents_withdrawn : List Bool

-- each member's list, or an empty list if none was given
abbrev pub given_lists : List (Option (List ℕ)) → List (List ℕ)
given_lists lists = map (λ list. unwrap_or list []) lists

-- the given lists, with an empty list for each withdrawn owner
abbrev pub remaining_lists : List (List ℕ) → List Bool → List (List ℕ)
remaining_lists [] flags = []
remaining_lists (list ∷ lists) [] = list ∷ lists
remaining_lists (list ∷ lists) (flag ∷ flags) = (if flag then [] else list) ∷ remaining_lists lists flags

-- the programmes' lists as given, where a withdrawn owner has an empty list; `resident_lists_left` has those of the
-- residents
abbrev pub programme_lists_left : Draft → List (List ℕ)
programme_lists_left d = remaining_lists (given_lists d.programme_lists) d.programmes_withdrawn

abbrev pub resident_lists_left : Draft → List (List ℕ)
resident_lists_left d = remaining_lists (given_lists d.resident_lists) d.residents_withdrawn

-- each owner's list in its own order, with only those members whose own lists have the owner
unfoldable pub mutual_lists : List (List ℕ) → List (List ℕ) → List (List ℕ)
mutual_lists mine theirs =
    map (λ (owned : ℕ × List ℕ). filter (λ x. is_listed (list_at theirs x) owned.0) owned.1) (enumerate_from 0 mine)

-- the instance of a builder's input: each list keeps the members who list its owner too, and a withdrawn member
-- lists nobody
abbrev pub instance_of : Draft → Instance
instance_of d = record {
  quotas = d.quotas;
  programme_lists = mutual_lists (programme_lists_left d) (resident_lists_left d);
  resident_lists = mutual_lists (resident_lists_left d) (programme_lists_left d);
  programmes_withdrawn = d.programmes_withdrawn;
  residents_withdrawn = d.residents_withdrawn;
}

-- the draft with one more programme, which has no list yet
abbrev pub with_programme : Draft → ℕ → Draft
with_programme d q = record d { quotas = d.quotas ++ q ∷ []; programme_lists = d.programme_lists ++ None ∷ []; programmes_withdrawn = d.programmes_withdrawn ++ false ∷ [] }

-- the draft with one more resident, who has no list yet
abbrev pub with_resident : Draft → Draft
with_resident d = record d { resident_lists = d.resident_lists ++ None ∷ []; residents_withdrawn = d.residents_withdrawn ++ false ∷ [] }

-- the draft after p's list was given
abbrev pub with_programme_list : Draft → ℕ → List ℕ → Draft
with_programme_list d p items = record d { programme_lists = slice_set d.programme_lists p (Some items) }

-- the draft after r's list was given
abbrev pub with_resident_list : Draft → ℕ → List ℕ → Draft
with_resident_list d r items = record d { resident_lists = slice_set d.resident_lists r (Some items) }

-- the draft after p was withdrawn
abbrev pub with_programme_withdrawn : Draft → ℕ → Draft
with_programme_withdrawn d p = record d { programmes_withdrawn = slice_set d.programmes_withdrawn p true }

-- the draft after r was withdrawn
abbrev pub with_resident_withdrawn : Draft → ℕ → Draft
with_resident_withdrawn d r = record d { residents_withdrawn = slice_set d.residents_withdrawn r true }

-- the items from the span's start to its end, if there is a span
abbrev pub list_in : List ℕ → Option (ℕ × ℕ) → Option (List ℕ)
list_in items None = None
list_in items (Some span) = Some (slice_range items span.0 span.1)

-- if there is a span, its end is neither before its start nor after n
abbrev pub IsSpan : ℕ → Option (ℕ × ℕ) → Type 0
IsSpan n None = Unit {0}
IsSpan n (Some span) = (span.0 ≤ span.1) × (span.1 ≤ n)

-- the draft with these quotas, lists and flags
abbrev pub draft_with : Limits → List ℕ → List (Option (List ℕ)) → List (Option (List ℕ)) → List Bool → List Bool → Draft
draft_with limits quotas programmes residents programmes_gone residents_gone = record {
  limits = limits;
  quotas = quotas;
  programme_lists = programmes;
  resident_lists = residents;
  programmes_withdrawn = programmes_gone;
  residents_withdrawn = residents_gone;
}

-- the lists as given, with an empty list for each withdrawn owner
abbrev pub lists_left : List (Option (List ℕ)) → List Bool → List (List ℕ)
lists_left lists flags = remaining_lists (given_lists lists) flags

-- one side's lists, each with only those members who list the list's owner too; the list of a withdrawn owner counts as
-- empty, on both sides
abbrev pub mutual_left : List (Option (List ℕ)) → List Bool → List (Option (List ℕ)) → List Bool → List (List ℕ)
mutual_left mine my_flags theirs their_flags = mutual_lists (lists_left mine my_flags) (lists_left theirs their_flags)

-- whether every item stands in the list only once
abbrev pub has_no_repeats : List ℕ → Bool
has_no_repeats [] = true
has_no_repeats (x ∷ xs) = not (is_listed xs x) && has_no_repeats xs

-- the first fault of a call that adds a programme with quota q: the limits allow no further programme, or no quota so
-- large
abbrev pub programme_fault : Draft → ℕ → Option ModelFault
programme_fault d q =
    if nat_le (most_programmes d.limits) (length d.quotas) then Some TooManyProgrammes
    else (if nat_lt MAX_QUOTA q then Some QuotaTooLarge else None)

-- the fault of a call that adds a resident: the limits allow no further resident
abbrev pub resident_fault : Draft → Option ModelFault
resident_fault d = if nat_le (most_residents d.limits) (length d.resident_lists) then Some TooManyResidents else None

-- the fault of a list's owner: the owner was not added, or already has a list
abbrev pub owner_fault : List (Option (List ℕ)) → ℕ → Option ModelFault
owner_fault lists owner =
    if nat_le (length lists) owner then Some NoSuchMember
    else (if is_some (slice_index_or lists owner None) then Some ListGivenTwice else None)

-- the first fault of a list's items: an item is not the number of one of the `others` members of the other side, or
-- is listed twice
abbrev pub items_fault : ℕ → List ℕ → Option ModelFault
items_fault others items =
    if not (list_all (λ x. nat_lt x others) items) then Some NoSuchMember
    else (if not (has_no_repeats items) then Some ListedTwice else None)

-- the first fault of a list: that of its owner, or else that of its items; the other side has `others` members
abbrev pub list_fault : List (Option (List ℕ)) → ℕ → ℕ → List ℕ → Option ModelFault
list_fault lists owner others items = option_or (owner_fault lists owner) (items_fault others items)

-- the first fault of a withdrawal: no member has this number, or the member is already withdrawn
abbrev pub withdrawal_fault : List Bool → ℕ → Option ModelFault
withdrawal_fault flags member =
    if nat_le (length flags) member then Some NoSuchMember
    else (if is_withdrawn flags member then Some WithdrawnTwice else None)

-- if there is a fault, the answer is this fault; without a fault, the answer is Ok or out of memory
abbrev pub AnswersFirst : {T : Type 0} → Option ModelFault → Result T ModelFault → Type 0
AnswersFirst (Some fault) r = r ≡ Err fault
AnswersFirst None (Ok v) = Unit {0}
AnswersFirst None (Err e) = e ≡ Memory

-- the answer is Ok only if there is no fault; an error is the fault, or out of memory
abbrev pub AnswersOrWantsMemory : {T : Type 0} → Option ModelFault → Result T ModelFault → Type 0
AnswersOrWantsMemory fault r = Answers Memory fault r

-- in every list that was given, each item is below n, and no item stands twice
pub record AreLists (lists : List (Option (List ℕ))) (n : ℕ) : Type 0 where
  pub items_below : All (λ list. list_all (λ x. nat_lt x n) list ≡ true) (given_lists lists)
  pub no_repeats : All (λ list. has_no_repeats list ≡ true) (given_lists lists)

-- What a builder keeps. The numbers of members and the quotas are within the limits. Each member has a flag, and a list
-- or none. A list has only members of the other side, without repeats.
pub record IsDraft (d : Draft) : Type 0 where
  pub one_list_each : length d.programme_lists ≡ length d.quotas
  pub programmes_within : length d.quotas ≤ most_programmes d.limits
  pub residents_within : length d.resident_lists ≤ most_residents d.limits
  pub quotas_within : All (λ q. q ≤ MAX_QUOTA) d.quotas
  pub programme_lists : AreLists d.programme_lists (length d.resident_lists)
  pub resident_lists : AreLists d.resident_lists (length d.quotas)
  pub one_flag_each_programme : length d.programmes_withdrawn ≡ length d.quotas
  pub one_flag_each_resident : length d.residents_withdrawn ≡ length d.resident_lists

-- why a builder makes no instance: memory ran out, or there are too many acceptable pairs
abbrev pub IsFinishFault : Draft → ModelFault → Type 0
IsFinishFault d fault = (fault ≡ Memory) ⊎ ((fault ≡ TooManyPairs) × (most_pairs d.limits < pair_count (instance_of d)))

-- whether this count of items is above the limit, if there is a limit
abbrev pub are_over : Option ℕ → ℕ → Bool
are_over None n = false
are_over (Some most) n = nat_lt most n

-- why this many items are not gathered: memory ran out, or there are more items than the limit
abbrev pub IsGatherFault : Option ℕ → ℕ → ModelFault → Type 0
IsGatherFault most n fault = (fault ≡ Memory) ⊎ ((fault ≡ TooManyPairs) × (are_over most n ≡ true))
