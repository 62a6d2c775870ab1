-- The next entry of the second pass: what the numbers in it say about its record.
use Rattle.std.proofs.Common.{◌≡◌, ◌<◌, ◌+◌, ℕ, List, [], ◌∷◌, ◌++◌, true, false, length, take, drop, map, sym, ◌∙◌, refl, ap, subst, Option, Some, None, is_some, get_or}
use Rattle.std.specs.Prelude.{◌&&◌, not, if◌then◌else◌, nat_eq, bytes_eq, position, slice_get, slice_index_or, unwrap_or, Result, Ok, Err, OnOk}
use Rattle.std.specs.List.{list_all, IsDistinct}
use Rattle.std.specs.Option.{option_or}
use Rattle.std.proofs.lemmas.List.{take_more, map-append}
use Rattle.std.proofs.lemmas.List.Elements.{All-nil, All-head, All-tail}
use Rattle.std.proofs.lemmas.List.Folds.{list_all_at, list_all_more}
use Rattle.std.proofs.lemmas.Option.{slice_get-get_or, same_Some}
use Rattle.match_model.specs.Draft.{Draft, AnswersOrWantsMemory, has_no_repeats}
use Rattle.match_model.specs.declared.fault.ModelFault.{ModelFault}
use Rattle.match_model.specs.declared.fault.ModelFault.TheVariants as model
use Rattle.docket.specs.Answers.{Refuses, at_record}
use Rattle.docket.specs.Contents.{listed_in, member_in, programmes_of, residents_of}
use Rattle.docket.specs.Fields.{unless}
use Rattle.records.specs.Reading.{Fields, field}
use Rattle.docket.specs.ListPass.{IsNext, ShowList, is_member, member_at}
use Rattle.docket.specs.Lists.{KeptEntry}
use Rattle.docket.specs.Passes.{ranking_fault, listing_fault, unknown_fault}
use Rattle.docket.specs.Rows.{row_at}
use Rattle.docket.specs.declared.fault.DocketFault.{DocketFault}
use Rattle.docket.specs.declared.fault.DocketFault.TheVariants.{UnknownName}
use Rattle.docket.specs.declared.store.lists.ListKind.{ListKind}
use Rattle.docket.specs.declared.store.lists.ListKind.TheVariants.{Ranking, Withdrawal}
use Rattle.docket.specs.declared.vocabulary.Side.{Side}
use Rattle.docket.specs.declared.vocabulary.Side.TheVariants.{Programmes, Residents}
use Rattle.docket_names.specs.Texts.{number_in, is_declared, texts_at, AreNames, AreNumbersOf}
use Rattle.docket_names.proofs.MemberFacts.{member_named}
use Rattle.docket.proofs.DeclarationFacts.{refuses_first, refuses_second, no_fault}
use Rattle.docket.proofs.RankingFacts.{place_at, ranking_fault-unowned, resident_declared, listed_answer, listed_fine}

-- a member stands at the same place among the members' text numbers and among the members' names
pub member_is : (texts : Fields) (members : List ℕ) (names : List (List ℕ)) (n : ℕ) → AreNames texts members names → IsDistinct bytes_eq texts → n < length texts
    → position (nat_eq n) members ≡ number_in names (slice_index_or texts n [])
member_is texts members names n are d lt =
    member_named texts members n (slice_index_or texts n []) d are.within (slice_get-get_or texts n [] lt) ∙ ap (λ (l : List (List ℕ)). number_in l (slice_index_or texts n [])) are.texts_are

-- all these numbers are members' numbers exactly if all their texts are declared names; both then
-- give the same members
pub members_are : (texts : Fields) (members : List ℕ) (names : List (List ℕ)) (numbers : List ℕ) → AreNames texts members names → IsDistinct bytes_eq texts → AreNumbersOf texts numbers
    → (list_all (is_member members) numbers ≡ list_all (is_declared names) (texts_at texts numbers)) × (map (member_at members) numbers ≡ map (member_in names) (texts_at texts numbers))
unfolding texts_at
members_are texts members names [] are d all = (refl, refl)
members_are texts members names (n ∷ numbers) are d all =
    let here = member_is texts members names n are d (All-head (λ (n : ℕ). n < length texts) n numbers all) in
    let rest = members_are texts members names numbers are d (All-tail (λ (n : ℕ). n < length texts) n numbers all) in
    ((λ i. is_some (here i) && rest.0 i), (λ i. unwrap_or (here i) 0 ∷ rest.1 i))

-- if the members with the first i numbers and the member with number i were found, the members with
-- the first i + 1 numbers were found
pub members_more : (members numbers : List ℕ) (i n m : ℕ) (items next : List ℕ) → i < length numbers → n ≡ get_or numbers i 0 → position (nat_eq n) members ≡ Some m
    → items ≡ map (member_at members) (take i numbers) → list_all (is_member members) (take i numbers) ≡ true → next ≡ items ++ m ∷ []
    → (next ≡ map (member_at members) (take (i + 1) numbers)) × (list_all (is_member members) (take (i + 1) numbers) ≡ true)
members_more members numbers i n m items next lt is at was all now =
    let more = take_more numbers i 0 lt in
    let at2 : position (nat_eq (get_or numbers i 0)) members ≡ Some m = rw (← is) at in (
      rw (now, was, more, map-append (member_at members) (take i numbers) (get_or numbers i 0 ∷ []), at2) refl,
      rw (list_all_more (is_member members) numbers i 0 lt, all, at2) refl,
    )

-- what the numbers in a rank list's entry say about its record
pub record ListSays (rows : List Fields) (k : ℕ) (names others : List (List ℕ)) (members numbers : List ℕ) (i : ℕ) : Type 0 where
  pub owner : number_in names (field (row_at rows k) 1) ≡ Some i
  pub same : list_all (is_member members) numbers ≡ list_all (is_declared others) (drop 2 (row_at rows k))
  pub whole : list_all (is_member members) numbers ≡ true → map (member_at members) numbers ≡ listed_in others (row_at rows k)

list_says : (texts : Fields) (rows : List Fields) (k owner i : ℕ) (names others : List (List ℕ)) (owners members numbers : List ℕ) → AreNames texts owners names → AreNames texts members others
    → IsDistinct bytes_eq texts → owner < length texts → AreNumbersOf texts numbers → position (nat_eq owner) owners ≡ Some i → slice_index_or texts owner [] ≡ field (row_at rows k) 1
    → ShowList others (row_at rows k) (texts_at texts numbers) → ListSays rows k names others members numbers i
unfolding listed_in
list_says texts rows k owner i names others owners members numbers own are d lt all at is show =
    let m = members_are texts members others numbers are d all in
    record {
      owner = ap (number_in names) (sym is) ∙ sym (member_is texts owners names owner own d lt) ∙ at;
      same = m.0 ∙ show.same;
      whole = λ h. m.1 ∙ ap (map (member_in others)) (show.whole (sym m.0 ∙ h));
    }

pub programme_says : (texts : Fields) (programmes residents : List ℕ) (builder : Draft) (rows : List Fields) (k place owner i : ℕ) (listed : List ℕ)
    → IsNext texts programmes residents builder rows k (record { record_no = place; kind = Ranking Programmes; owner = owner; listed = listed }) → position (nat_eq owner) programmes ≡ Some i
    → ListSays rows k (programmes_of rows) (residents_of rows) residents listed i
programme_says texts programmes residents builder rows k place owner i listed h at =
    let known : is_declared (programmes_of rows) (slice_index_or texts owner []) ≡ true =
    ap is_some (sym (member_is texts programmes (programmes_of rows) owner h.known.programmes_are h.known.distinct h.within.0) ∙ at) in
    list_says texts rows k owner i (programmes_of rows) (residents_of rows) programmes residents listed h.known.programmes_are h.known.residents_are h.known.distinct h.within.0 h.within.1 at
    h.shown.1 (h.shown.2 known)

pub resident_says : (texts : Fields) (programmes residents : List ℕ) (builder : Draft) (rows : List Fields) (k place owner i : ℕ) (listed : List ℕ)
    → IsNext texts programmes residents builder rows k (record { record_no = place; kind = Ranking Residents; owner = owner; listed = listed }) → position (nat_eq owner) residents ≡ Some i
    → ListSays rows k (residents_of rows) (programmes_of rows) programmes listed i
resident_says texts programmes residents builder rows k place owner i listed h at =
    list_says texts rows k owner i (residents_of rows) (programmes_of rows) residents programmes listed h.known.residents_are h.known.programmes_are h.known.distinct h.within.0 h.within.1 at
    h.shown.1 h.shown.2

-- if the owner's number in a P row's entry is no programme's, the row has the fault of an unknown
-- name
pub programme_unknown : (texts : Fields) (programmes residents : List ℕ) (builder : Draft) (rows : List Fields) (k place owner : ℕ) (listed : List ℕ)
    → IsNext texts programmes residents builder rows k (record { record_no = place; kind = Ranking Programmes; owner = owner; listed = listed }) → position (nat_eq owner) programmes ≡ None
    → ranking_fault rows (take k rows) (row_at rows k) ≡ Some (UnknownName place)
programme_unknown texts programmes residents builder rows k place owner listed h none =
    let at : number_in (programmes_of rows) (field (row_at rows k) 1) ≡ None =
    ap (number_in (programmes_of rows)) (sym h.shown.1) ∙ sym (member_is texts programmes (programmes_of rows) owner h.known.programmes_are h.known.distinct h.within.0) ∙ none in
    ranking_fault-unowned rows (take k rows) (row_at rows k) place h.shown.0 at (h.record_no ∙ place_at rows k h.there)

pub resident_known : (texts : Fields) (programmes residents : List ℕ) (builder : Draft) (rows : List Fields) (k place owner : ℕ) (listed : List ℕ)
    → IsNext texts programmes residents builder rows k (record { record_no = place; kind = Ranking Residents; owner = owner; listed = listed }) → position (nat_eq owner) residents ≡ None → ⊥
resident_known texts programmes residents builder rows k place owner listed h none =
    resident_declared rows k h.there h.shown.0
    (ap (number_in (residents_of rows)) (sym h.shown.1) ∙ sym (member_is texts residents (residents_of rows) owner h.known.residents_are h.known.distinct h.within.0) ∙ none)

-- if a listed number is no member's, the record has the fault of an unknown name
pub unknown_refused : (place : ℕ) (others : List (List ℕ)) (row : Fields) (members numbers : List ℕ) (second : Option DocketFault) (e : DocketFault)
    → list_all (is_member members) numbers ≡ list_all (is_declared others) (drop 2 row) → Refuses (unless (list_all (is_member members) numbers) (UnknownName place)) e
    → Refuses (option_or (unknown_fault place others row) second) e
unknown_refused place others row members numbers second e same h = refuses_first (unknown_fault place others row) second e (rw same at h)

-- if no listed name is unknown, the record has only the fault that the builder finds
pub list_fine : (place : ℕ) (others : List (List ℕ)) (row : Fields) (members numbers : List ℕ) (f : Option ModelFault)
    → list_all (is_member members) numbers ≡ list_all (is_declared others) (drop 2 row) → unless (list_all (is_member members) numbers) (UnknownName place) ≡ None
    → f ≡ (if not (has_no_repeats (listed_in others row)) then Some model.ListedTwice else None) → f ≡ None → listing_fault place others row ≡ None
list_fine place others row members numbers f same known is none =
    no_fault _ _ (rw same at known) (listed_fine place (has_no_repeats (listed_in others row)) f is none)

pub list_refused : (T : Type 0) (place : ℕ) (others : List (List ℕ)) (row : Fields) (members numbers : List ℕ) (f : Option ModelFault) (r : Result T ModelFault) (fault : ModelFault)
    → list_all (is_member members) numbers ≡ list_all (is_declared others) (drop 2 row) → unless (list_all (is_member members) numbers) (UnknownName place) ≡ None
    → f ≡ (if not (has_no_repeats (listed_in others row)) then Some model.ListedTwice else None) → AnswersOrWantsMemory f r → r ≡ Err fault
    → Refuses (listing_fault place others row) (at_record place fault)
list_refused T place others row members numbers f r fault same known is answers e =
    refuses_second (unknown_fault place others row) _ _ (rw same at known) (listed_answer T place (has_no_repeats (listed_in others row)) r f is answers fault e)

-- if one of the numbers is no member's, not all numbers are members'
pub member_missing : (members numbers : List ℕ) (i : ℕ) → i < length numbers → position (nat_eq (get_or numbers i 0)) members ≡ None → list_all (is_member members) numbers ≡ false
member_missing members numbers i lt none = list_all_at (is_member members) numbers i 0 lt (ap is_some none)

-- the member whom a withdrawal names is the member whose number its entry has
pub programme_named : (texts : Fields) (programmes residents : List ℕ) (builder : Draft) (rows : List Fields) (k place owner : ℕ)
    → IsNext texts programmes residents builder rows k (record { record_no = place; kind = Withdrawal Programmes; owner = owner; listed = [] })
    → number_in (programmes_of rows) (field (row_at rows k) 2) ≡ position (nat_eq owner) programmes
programme_named texts programmes residents builder rows k place owner h =
    ap (number_in (programmes_of rows)) (sym h.shown.2) ∙ sym (member_is texts programmes (programmes_of rows) owner h.known.programmes_are h.known.distinct h.within.0)

pub resident_named : (texts : Fields) (programmes residents : List ℕ) (builder : Draft) (rows : List Fields) (k place owner : ℕ)
    → IsNext texts programmes residents builder rows k (record { record_no = place; kind = Withdrawal Residents; owner = owner; listed = [] })
    → number_in (residents_of rows) (field (row_at rows k) 2) ≡ position (nat_eq owner) residents
resident_named texts programmes residents builder rows k place owner h =
    ap (number_in (residents_of rows)) (sym h.shown.2) ∙ sym (member_is texts residents (residents_of rows) owner h.known.residents_are h.known.distinct h.within.0)

pub on_ok : {T E A B : Type 0} (r : Result T E) → OnOk r A → (A → B) → OnOk r B
on_ok (Ok x) a f = f a
on_ok (Err e) a f = tt

-- the entry that the store returned is the next entry, if its parts are equal to the parts returned
pub next_as : (texts : Fields) (programmes residents : List ℕ) (builder : Draft) (rows : List Fields) (k : ℕ) (entries : List KeptEntry) (j : ℕ) (entry : KeptEntry) (place owner : ℕ) (listed : List ℕ) (kind same : ListKind)
    → slice_get entries j ≡ Some (record { record_no = place; kind = kind; owner = owner; listed = listed }) → kind ≡ same → slice_get entries j ≡ Some entry
    → IsNext texts programmes residents builder rows k entry → IsNext texts programmes residents builder rows k (record { record_no = place; kind = same; owner = owner; listed = listed })
next_as texts programmes residents builder rows k entries j entry place owner listed kind same given is at h =
    let first : entry ≡ record { record_no = place; kind = kind; owner = owner; listed = listed } = same_Some entry _ (sym at ∙ given) in
    let path : entry ≡ record { record_no = place; kind = same; owner = owner; listed = listed } = first ∙ (λ i. record { record_no = place; kind = is i; owner = owner; listed = listed }) in
    subst (λ (e : KeptEntry). IsNext texts programmes residents builder rows k e) path h

-- the entry of a withdrawal has no listed numbers
pub next_gone : (texts : Fields) (programmes residents : List ℕ) (builder : Draft) (rows : List Fields) (k place owner : ℕ) (listed : List ℕ) (side : Side)
    → IsNext texts programmes residents builder rows k (record { record_no = place; kind = Withdrawal side; owner = owner; listed = listed })
    → IsNext texts programmes residents builder rows k (record { record_no = place; kind = Withdrawal side; owner = owner; listed = [] })
unfolding texts_at
next_gone texts programmes residents builder rows k place owner listed side h = record {
  known = h.known;
  within = (h.within.0, All-nil (λ n. n < length texts));
  there = h.there;
  record_no = h.record_no;
  ranked = h.ranked;
  shown = (h.shown.0, h.shown.1, h.shown.2, refl);
}
