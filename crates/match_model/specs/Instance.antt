-- The instance of a match: quotas, rankings with acceptable members only, and the withdrawn members.
use Rattle.std.specs.Prelude.{◌≡◌, ℕ, ◌<◌, ◌≤◌, ◌↔◌, if◌then◌else◌, Bool, true, false, Option, Some, None, List, [], length, slice_get, slice_index, slice_index_or}
use Rattle.std.specs.List.{sum_by}
use Rattle.match_model.specs.Ranking.{place, is_listed, IsListed, HasNoRepeats}
use Rattle.match_model.specs.declared.limits.TheConstants.{MAX_PROGRAMMES, MAX_RESIDENTS, MAX_PAIRS, MAX_QUOTA}

-- each programme's quota, each member's ranking of acceptable members by number, and whether each member is withdrawn
pub record Instance : Type 0 where
  pub quotas : List ℕ
  pub programme_lists : List (List ℕ)
  pub resident_lists : List (List ℕ)
  pub programmes_withdrawn : List Bool
  pub residents_withdrawn : List Bool

-- the instance with these quotas, rankings and flags
abbrev pub instance_with : List ℕ → List (List ℕ) → List (List ℕ) → List Bool → List Bool → Instance
instance_with quotas programmes residents programmes_gone residents_gone = record {
  quotas = quotas;
  programme_lists = programmes;
  resident_lists = residents;
  programmes_withdrawn = programmes_gone;
  residents_withdrawn = residents_gone;
}

-- list i, or an empty list if i is past the end
abbrev pub list_at : List (List ℕ) → ℕ → List ℕ
list_at lists i = slice_index_or lists i []

-- whether the member's flag says withdrawn
abbrev pub is_withdrawn : List Bool → ℕ → Bool
is_withdrawn flags member = slice_index_or flags member false

-- p is a programme of the instance
abbrev pub IsProgramme : Instance → ℕ → Type 0
IsProgramme inst p = p < length inst.quotas

-- r is a resident of the instance
abbrev pub IsResident : Instance → ℕ → Type 0
IsResident inst r = r < length inst.resident_lists

-- the greatest number of residents that p may have
abbrev pub quota : Instance → ℕ → ℕ
quota inst p = slice_index inst.quotas p

-- the residents whom p ranks and who rank p, best first
abbrev pub list_of_programme : Instance → ℕ → List ℕ
list_of_programme inst p = list_at inst.programme_lists p

-- the programmes that r ranks and that rank r, best first
abbrev pub list_of_resident : Instance → ℕ → List ℕ
list_of_resident inst r = list_at inst.resident_lists r

-- r and p rank each other
abbrev pub Acceptable : Instance → ℕ → ℕ → Type 0
Acceptable inst r p = IsListed (list_of_programme inst p) r

-- how many pairs are acceptable
abbrev pub pair_count : Instance → ℕ
pair_count inst = sum_by (λ (xs : List ℕ). length xs) inst.programme_lists

-- the place of x in the list, counted from 0, if x is listed
abbrev pub rank : List ℕ → ℕ → Option ℕ
rank xs x = if is_listed xs x then Some (place xs x) else None

-- the resident of an offer by p, with p's place in that resident's list, counted from 0; none if there is no resident
abbrev pub offer_to : Instance → ℕ → Option ℕ → Option (ℕ × ℕ)
offer_to inst p None = None
offer_to inst p (Some r) = Some (r, place (list_of_resident inst r) p)

-- the resident at this place of p's list, counted from 0, with p's place in that resident's list; none past the end
-- of p's list
abbrev pub offer_at : Instance → ℕ → ℕ → Option (ℕ × ℕ)
offer_at inst p k = offer_to inst p (slice_get (list_of_programme inst p) k)

-- Each member has a ranking without repeats, and a flag. All numbers are within the limits. p ranks r exactly if r
-- ranks p. A withdrawn member ranks nobody.
pub record IsInstance (inst : Instance) : Type 0 where
  pub one_list_each : length inst.programme_lists ≡ length inst.quotas
  pub programmes_rank_strictly : (p : ℕ) → HasNoRepeats (list_of_programme inst p)
  pub residents_rank_strictly : (r : ℕ) → HasNoRepeats (list_of_resident inst r)
  pub both_rank : (p r : ℕ) → IsListed (list_of_programme inst p) r ↔ IsListed (list_of_resident inst r) p
  pub programmes_within : length inst.quotas ≤ MAX_PROGRAMMES
  pub residents_within : length inst.resident_lists ≤ MAX_RESIDENTS
  pub quotas_within : (p : ℕ) → quota inst p ≤ MAX_QUOTA
  pub pairs_within : pair_count inst ≤ MAX_PAIRS
  pub one_flag_each_programme : length inst.programmes_withdrawn ≡ length inst.quotas
  pub one_flag_each_resident : length inst.residents_withdrawn ≡ length inst.resident_lists
  pub withdrawn_programmes_rank_nobody : (p : ℕ) → is_withdrawn inst.programmes_withdrawn p ≡ true → list_of_programme inst p ≡ []
  pub withdrawn_residents_rank_nobody : (r : ℕ) → is_withdrawn inst.residents_withdrawn r ≡ true → list_of_resident inst r ≡ []

-- the lists and quotas form an instance, `pairs` is its number of acceptable pairs, and no list is longer than the
-- greatest number of pairs
pub record IsWellFormed (inst : Instance) (pairs : ℕ) : Type 0 where
  pub is_instance : IsInstance inst
  pub pairs_counted : pairs ≡ pair_count inst
  pub programme_lists_within : (p : ℕ) → length (list_of_programme inst p) ≤ MAX_PAIRS
  pub resident_lists_within : (r : ℕ) → length (list_of_resident inst r) ≤ MAX_PAIRS
