-- An instance's list is the written list filtered by a test. So two members stand in the same order on both lists.
use Rattle.std.proofs.Common.{◌≡◌, ℕ, ◌<◌, inl, inr, Bool, true, false, cond, List, [], ◌∷◌, length, arith, refl, sym, ap, ◌∙◌, subst}
use Rattle.std.specs.Prelude.{if◌then◌else◌}
use Rattle.std.specs.List.{filter}
use Rattle.match_model.specs.Ranking.{place, IsListed, is_listed, IsBefore}
use Rattle.match_model.specs.Instance.{Instance, list_at, is_withdrawn, list_of_programme, list_of_resident, Acceptable}
use Rattle.match_model.specs.Draft.{Draft, instance_of, mutual_lists, given_lists, remaining_lists, programme_lists_left, resident_lists_left}
use Rattle.match_model.specs.Written.{Written, AreWritten}
use Rattle.match_model.proofs.Mutual.{get_or-mutual_lists, length-mutual_lists}
use Rattle.match_model.proofs.Remaining.{remaining_at}
use Rattle.match_model.proofs.Struck.{acceptable_where}
use Rattle.settle_law.proofs.Places.{place_cases, IsListed-filter}

-- the instance was made from written lists, among which `mine` is resident r's list and `theirs` is programme p's list
pub record AreListsOf (inst : Instance) (r p : ℕ) (mine theirs : List ℕ) : Type 0 where
  pub draft : Draft
  pub made : inst ≡ instance_of draft
  pub of_resident : mine ≡ list_at (given_lists draft.resident_lists) r
  pub of_programme : theirs ≡ list_at (given_lists draft.programme_lists) p

pub lists_of_pair : (inst : Instance) (written : Written) (r p : ℕ) → AreWritten inst written →
    AreListsOf inst r p (list_at written.resident_lists r) (list_at written.programme_lists p)
lists_of_pair inst written r p h = record {
  draft = h.draft;
  made = h.made;
  of_resident = ap (λ (w : Written). list_at w.resident_lists r) h.lists;
  of_programme = ap (λ (w : Written). list_at w.programme_lists p) h.lists;
}

-- a member who passes the test and stands before another member on a list also stands before that member on the
-- filtered list
pub kept_before : (f : ℕ → Bool) (ys : List ℕ) (x y : ℕ) → IsListed (filter f ys) x → place ys x < place ys y →
    place (filter f ys) x < place (filter f ys) y
kept_before f [] x y l b = absurd (omega arith)
kept_before f (z ∷ zs) x y l b = go (f z) refl l (kept_before f zs x y)
  where
    go : (c : Bool) → f z ≡ c → IsListed (cond c (z ∷ filter f zs) (filter f zs)) x →
        (IsListed (filter f zs) x → place zs x < place zs y → place (filter f zs) x < place (filter f zs) y) →
        place (cond c (z ∷ filter f zs) (filter f zs)) x < place (cond c (z ∷ filter f zs) (filter f zs)) y
    go true e m rest = elim (place_cases z zs y) [
      | inl here ↦ absurd (omega arith)
      | inr past ↦ elim (place_cases z (filter f zs) y) [
        | inl here ↦ absurd (past.0 here.0)
        | inr after ↦ elim (place_cases z (filter f zs) x) [
          | inl first ↦ omega arith
          | inr other ↦ elim (place_cases z zs x) [
            | inl first ↦ absurd (other.0 first.0)
            | inr later ↦ let h = rest (omega arith) (omega arith) in omega arith
          ]
        ]
      ]
    ]
    go false e m rest = elim (place_cases z zs x) [
      | inl first ↦ let passes = (IsListed-filter f zs x m).1 in let fails = subst (λ w. f w ≡ false) first.0 e in absurd (cc)
      | inr later ↦ elim (place_cases z zs y) [
        | inl here ↦ absurd (omega arith)
        | inr past ↦ rest m (omega arith)
      ]
    ]

-- if no item passes the test, the filtered list is empty
filter-none : (xs : List ℕ) → [] ≡ filter (λ x. false) xs
filter-none [] = refl
filter-none (x ∷ xs) = filter-none xs

-- the mutual part of a list is the list filtered by a test; for a withdrawn owner no item passes
kept_at : (mine theirs : List (List ℕ)) (flags : List Bool) (i : ℕ) → i < length (remaining_lists mine flags) →
    (f : ℕ → Bool) × (list_at (mutual_lists (remaining_lists mine flags) theirs) i ≡ filter f (list_at mine i))
kept_at mine theirs flags i l =
    go (is_withdrawn flags i) (get_or-mutual_lists (remaining_lists mine flags) theirs i l ∙ ap (filter (λ x. is_listed (list_at theirs x) i)) (remaining_at mine flags i))
  where
    go : (b : Bool) → list_at (mutual_lists (remaining_lists mine flags) theirs) i ≡ filter (λ x. is_listed (list_at theirs x) i) (if b then [] else list_at mine i) →
        (f : ℕ → Bool) × (list_at (mutual_lists (remaining_lists mine flags) theirs) i ≡ filter f (list_at mine i))
    go true e = ((λ x. false), e ∙ filter-none (list_at mine i))
    go false e = ((λ x. is_listed (list_at theirs x) i), e)

-- the instance's list of resident r is r's written list filtered by a test, and so is programme p's
pub resident_kept : (inst : Instance) (r p : ℕ) (mine theirs : List ℕ) → AreListsOf inst r p mine theirs → r < length inst.resident_lists →
    (f : ℕ → Bool) × (list_of_resident inst r ≡ filter f mine)
resident_kept inst r p mine theirs w l =
    let d : Draft = w.draft in
    let many : length inst.resident_lists ≡ length (resident_lists_left d) =
    ap (λ (i : Instance). length i.resident_lists) w.made ∙ length-mutual_lists (resident_lists_left d) (programme_lists_left d) in
    let kept = kept_at (given_lists d.resident_lists) (programme_lists_left d) d.residents_withdrawn r (omega arith) in
    (kept.0, ap (λ (i : Instance). list_of_resident i r) w.made ∙ kept.1 ∙ ap (filter kept.0) (sym w.of_resident))

pub programme_kept : (inst : Instance) (r p : ℕ) (mine theirs : List ℕ) → AreListsOf inst r p mine theirs → p < length inst.programme_lists →
    (f : ℕ → Bool) × (list_of_programme inst p ≡ filter f theirs)
programme_kept inst r p mine theirs w l =
    let d : Draft = w.draft in
    let many : length inst.programme_lists ≡ length (programme_lists_left d) =
    ap (λ (i : Instance). length i.programme_lists) w.made ∙ length-mutual_lists (programme_lists_left d) (resident_lists_left d) in
    let kept = kept_at (given_lists d.programme_lists) (resident_lists_left d) d.programmes_withdrawn p (omega arith) in
    (kept.0, ap (λ (i : Instance). list_of_programme i p) w.made ∙ kept.1 ∙ ap (filter kept.0) (sym w.of_programme))

-- two members stand in the same order on an instance's list and on the written list
before_in : (f : ℕ → Bool) (xs ys : List ℕ) (x y : ℕ) → xs ≡ filter f ys → IsListed xs x → IsBefore ys x y → IsBefore xs x y
before_in f xs ys x y e l b = subst (λ (zs : List ℕ). IsBefore zs x y) (sym e) (kept_before f ys x y (subst (λ (zs : List ℕ). IsListed zs x) e l) b)

pub resident_before : (inst : Instance) (r p : ℕ) (mine theirs : List ℕ) (x y : ℕ) → AreListsOf inst r p mine theirs → r < length inst.resident_lists →
    IsListed (list_of_resident inst r) x → IsBefore mine x y → IsBefore (list_of_resident inst r) x y
resident_before inst r p mine theirs x y w within l b =
    let kept = resident_kept inst r p mine theirs w within in before_in kept.0 (list_of_resident inst r) mine x y kept.1 l b

pub programme_before : (inst : Instance) (r p : ℕ) (mine theirs : List ℕ) (x y : ℕ) → AreListsOf inst r p mine theirs → p < length inst.programme_lists →
    IsListed (list_of_programme inst p) x → IsBefore theirs x y → IsBefore (list_of_programme inst p) x y
programme_before inst r p mine theirs x y w within l b =
    let kept = programme_kept inst r p mine theirs w within in before_in kept.0 (list_of_programme inst p) theirs x y kept.1 l b

-- a pair is acceptable exactly if each member listed the other on the written lists, and neither member is withdrawn
pub written_parts : (inst : Instance) (r p : ℕ) (mine theirs : List ℕ) → AreListsOf inst r p mine theirs → Acceptable inst r p →
    IsListed mine p × IsListed theirs r
written_parts inst r p mine theirs w a =
    let both = (acceptable_where w.draft r p).0 (subst (λ (i : Instance). Acceptable i r p) w.made a) in
    (subst (λ (xs : List ℕ). IsListed xs p) (sym w.of_resident) both.resident_lists_programme, subst (λ (xs : List ℕ). IsListed xs r) (sym w.of_programme) both.programme_lists_resident)

pub acceptable_written : (inst : Instance) (r p : ℕ) (mine theirs : List ℕ) → AreListsOf inst r p mine theirs → IsListed mine p → IsListed theirs r →
    is_withdrawn inst.residents_withdrawn r ≡ false → is_withdrawn inst.programmes_withdrawn p ≡ false → Acceptable inst r p
acceptable_written inst r p mine theirs w l k here there =
    subst (λ (i : Instance). Acceptable i r p) (sym w.made) ((acceptable_where w.draft r p).1 (record {
      programme_lists_resident = subst (λ (xs : List ℕ). IsListed xs r) w.of_programme k;
      resident_lists_programme = subst (λ (xs : List ℕ). IsListed xs p) w.of_resident l;
      programme_stays = sym (ap (λ (i : Instance). is_withdrawn i.programmes_withdrawn p) w.made) ∙ there;
      resident_stays = sym (ap (λ (i : Instance). is_withdrawn i.residents_withdrawn r) w.made) ∙ here;
    }))
