-- What it means that members withdraw before a match.
use Rattle.std.specs.Prelude.{◌≡◌, ℕ, not, Bool, false, Option, Some, List, map}
use Rattle.std.specs.List.{filter}
use Rattle.match_model.specs.Ranking.{IsListed}
use Rattle.match_model.specs.Instance.{Instance, list_at, is_withdrawn}
use Rattle.match_model.specs.Draft.{Draft, given_lists, remaining_lists, mutual_lists}

-- in the lists as given, r and p listed each other, and neither is withdrawn
pub record ListOneAnother (d : Draft) (r p : ℕ) : Type 0 where
  pub programme_lists_resident : IsListed (list_at (given_lists d.programme_lists) p) r
  pub resident_lists_programme : IsListed (list_at (given_lists d.resident_lists) r) p
  pub programme_stays : is_withdrawn d.programmes_withdrawn p ≡ false
  pub resident_stays : is_withdrawn d.residents_withdrawn r ≡ false

-- the list without the numbers of withdrawn members
abbrev pub strike : List Bool → List ℕ → List ℕ
strike flags list = filter (λ x. not (is_withdrawn flags x)) list

-- each list without the numbers of withdrawn members; the list of a withdrawn owner is empty
abbrev pub struck_lists : List (Option (List ℕ)) → List Bool → List Bool → List (Option (List ℕ))
struck_lists lists owners others = map (λ list. Some (strike others list)) (remaining_lists (given_lists lists) owners)

-- flags for as many members, none of whom is withdrawn
abbrev pub none_withdrawn : List Bool → List Bool
none_withdrawn flags = map (λ flag. false) flags

-- the draft without withdrawals: a member who was withdrawn has an empty list, and no other list has that member's
-- number
abbrev pub struck : Draft → Draft
struck d = record d {
  programme_lists = struck_lists d.programme_lists d.programmes_withdrawn d.residents_withdrawn;
  resident_lists = struck_lists d.resident_lists d.residents_withdrawn d.programmes_withdrawn;
  programmes_withdrawn = none_withdrawn d.programmes_withdrawn;
  residents_withdrawn = none_withdrawn d.residents_withdrawn;
}

-- the instance with these withdrawal flags
abbrev pub with_flags : Instance → List Bool → List Bool → Instance
with_flags inst programmes residents = record inst { programmes_withdrawn = programmes; residents_withdrawn = residents }

-- all of these flags say that the member is not withdrawn
abbrev pub AreAllHere : List Bool → Type 0
AreAllHere flags = (member : ℕ) → is_withdrawn flags member ≡ false

-- if nobody is withdrawn, each of these lists is the given list with only those members who list the list's owner too
abbrev pub AreMutualWhereAllHere : Draft → List (List ℕ) → List (Option (List ℕ)) → List (Option (List ℕ)) → Type 0
AreMutualWhereAllHere d lists mine theirs =
    AreAllHere d.programmes_withdrawn → AreAllHere d.residents_withdrawn → lists ≡ mutual_lists (given_lists mine) (given_lists theirs)
