-- Conditions under which the content of a receipt has no fault.
use Rattle.std.proofs.Common.{◌≡◌, ℕ, zero, suc, ◌+◌, ◌<◌, ◌≤◌, ◌&&◌, Bool, true, false, List, [], ◌∷◌, length, map, nat_lt, Option, Some, None, is_some, option_map, unwrap_or, refl, sym, ap, ◌∙◌, arith, subst, rules}
use Rattle.std.specs.Prelude.{decimal, not, if◌then◌else◌}
use Rattle.std.proofs.lemmas.Bool.{le-ltb}
use Rattle.std.proofs.lemmas.List.{length-map}
use Rattle.docket_names.specs.Words.{is_name}
use Rattle.docket_names.specs.Texts.{number_in}
use Rattle.receipt_check.specs.Rows.{Cells, text_at}
use Rattle.receipt_check.specs.Receipt.{Receipt, answer, has_real_name, lists_text, member_row, members, result_text}
use Rattle.receipt_check.specs.Faults.{can_stand, lists_fault, members_fault, openings_at, openings_fault, opening_wrong, own_fault, plain_number, programme_fault, reason_at, reasons_fault, resident_fault, result_fault, result_fault_of, result_place, second_fault, stand_of, value_fault, wrong_name, wrong_reason}
use Rattle.receipt_check.specs.Named.{is_real}
use Rattle.receipt_check.specs.Shape.{at}
use Rattle.receipt_check.specs.declared.wrong.Wrong.TheVariants as wrong
use Rattle.receipt_check.specs.declared.kind.Kind.TheVariants.{Programme, Resident}
use Rattle.receipt_theorem.proofs.Numbers.{read_back}
use Rattle.receipt_theorem.proofs.Places.{none_in}

-- the second fields of the rows of a programme's residents are the residents' names
pub members_kept : (name : List ℕ) (others : Cells) → map (λ row. text_at row 1) (map (member_row name) others) ≡ others
members_kept name [] = refl
members_kept name (other ∷ rest) = ap (λ (more : Cells). other ∷ more) (members_kept name rest)

-- what a receipt has from the trees and from the real name: the number of leaves, the leaf's place,
-- its two openings, and the pieces of the name's row
pub record Opened : Type 0 where
  pub count : ℕ
  pub index : ℕ
  pub opening : Cells
  pub second : Cells
  pub named : Cells

-- the content of a programme's receipt, by its openings, name, quota, list, withdrawal and
-- residents
abbrev pub programme_content : Opened → List ℕ → ℕ → Option Cells → Bool → Cells → Receipt
programme_content o name quota list gone others = record {
  kind = Programme;
  name = name;
  count = decimal o.count;
  index = decimal o.index;
  opening = o.opening;
  quota = decimal quota;
  has_list = is_some list;
  list = unwrap_or list [];
  gone = gone;
  named = o.named;
  second = o.second;
  own = None;
  after = map (member_row name) others;
}

-- the content of a resident's receipt, by its openings, name, list, withdrawal, own programme and
-- reasons
abbrev pub resident_content : Opened → List ℕ → Cells → Bool → Option (List ℕ) → List Cells → Receipt
resident_content o name list gone own after = record {
  kind = Resident;
  name = name;
  count = decimal o.count;
  index = decimal o.index;
  opening = o.opening;
  quota = [];
  has_list = false;
  list = list;
  gone = gone;
  named = o.named;
  second = o.second;
  own = own;
  after = after;
}

-- the two openings and the row of the real name in a receipt are right
pub record AreOpened (lists_root : List ℕ) (result_root : Option (List ℕ)) (o : Opened) (r : Receipt) : Type 0 where
  pub few : o.count < 1000000000
  pub small : o.index < 1000000000
  pub lists : opening_wrong lists_root o.count o.index r.opening (lists_text r) ≡ None
  pub result : (root : List ℕ) → result_root ≡ Some root → opening_wrong root o.count o.index r.second (result_text r) ≡ None
  pub named : (has_real_name r.named && not (is_real r.named)) ≡ false

openings_right : (lists_root : List ℕ) (result_root : Option (List ℕ)) (o : Opened) (r : Receipt) → r.count ≡ decimal o.count → r.index ≡ decimal o.index
    → AreOpened lists_root result_root o r → openings_fault lists_root result_root r ≡ None
unfolding openings_fault
openings_right lists_root result_root o r c i h =
    ap (λ n. openings_at lists_root result_root r n (plain_number r.index)) (ap plain_number c ∙ read_back o.count h.few)
    ∙ ap (λ n. openings_at lists_root result_root r (Some o.count) n) (ap plain_number i ∙ read_back o.index h.small)
    ∙ rw h.lists (by_root result_root h.result)
  where
    by_root : (root : Option (List ℕ)) → ((given : List ℕ) → root ≡ Some given → opening_wrong given o.count o.index r.second (result_text r) ≡ None) → second_fault root o.count o.index r ≡ None
    by_root None right = refl
    by_root (Some root) right = rw (right root refl) refl

-- what has to be true of the content of a programme's receipt, except for its openings
pub record IsRightProgramme (name : List ℕ) (quota : ℕ) (list : Cells) (gone : Bool) (others : Cells) : Type 0 where
  pub named : is_name name ≡ true
  pub places : quota < 1000000000
  pub listed : wrong_name None list ≡ None
  pub fits : length others ≤ quota
  pub nobody : gone ≡ true → length others ≡ 0
  pub on_list : wrong_name (Some list) others ≡ None

pub programme_right : (lists_root : List ℕ) (result_root : Option (List ℕ)) (o : Opened) (name : List ℕ) (quota : ℕ) (list : Option Cells) (gone : Bool) (others : Cells)
    → AreOpened lists_root result_root o (programme_content o name quota list gone others)
    → IsRightProgramme name quota (unwrap_or list []) gone others
    → value_fault lists_root result_root (programme_content o name quota list gone others) ≡ None
unfolding value_fault
programme_right lists_root result_root o name quota list gone others opened h =
    rw (openings_right lists_root result_root o (programme_content o name quota list gone others) refl refl opened, h.named, read_back quota h.places, h.listed, opened.named) (by_result result_root)
  where
    r : Receipt
    r = programme_content o name quota list gone others

    enough : nat_lt quota (length (map (member_row name) others)) ≡ false
    enough = le-ltb quota _ (subst (λ n. n ≤ quota) (sym (length-map others (member_row name))) h.fits)

    none_gone : (b : Bool) → gone ≡ b → (b && nat_lt 0 (length (map (member_row name) others))) ≡ false
    none_gone true e = le-ltb 0 _ (subst (λ n. n ≤ 0) (sym (length-map others (member_row name) ∙ h.nobody e)) (omega arith))
    none_gone false e = refl

    told : members_fault r ≡ None
    told = rw (members_kept name others, h.on_list) refl

    by_result : (root : Option (List ℕ)) → result_fault root r ≡ None
    by_result None = refl
    by_result (Some root) = rw (read_back quota h.places, enough, none_gone gone refl) told

-- what has to be true of the content of a resident's receipt, except for its openings, if the
-- resident's own programme is choice `own`
pub record IsRightResident (r : Receipt) (own : Option ℕ) : Type 0 where
  pub own_is : option_map (number_in r.list) r.own ≡ option_map Some own
  pub stays : (name : List ℕ) → r.own ≡ Some name → r.gone ≡ false
  pub reasons : (k : ℕ) → k < length r.list → can_stand r.gone (stand_of own k) (answer r k) ≡ true

reasons_right : (r : Receipt) (own : Option ℕ) → IsRightResident r own → wrong_reason r own ≡ None
unfolding wrong_reason
reasons_right r own h = none_in (reason_at r own) (length r.list) (λ k l. rw (h.reasons k l) refl)

placed_right : (r : Receipt) (place : ℕ) (found : Option ℕ) → r.gone ≡ false → found ≡ Some place → IsRightResident r (Some place) → own_fault r found ≡ None
placed_right r place found stays there h = ap (own_fault r) there ∙ by_gone r.gone stays
  where
    by_gone : (gone : Bool) → gone ≡ false → (if gone then Some (at (result_place r 0) wrong.Gone) else if not true then Some (at (result_place r 0) wrong.NotListed) else reasons_fault r (Some place)) ≡ None
    by_gone true e = cc e
    by_gone false e = rw (reasons_right r (Some place) h) refl

resident_result : (r : Receipt) (own : Option ℕ) (told : Option (List ℕ)) → r.own ≡ told → IsRightResident r own → resident_fault r told ≡ None
resident_result r None None e h = rw (reasons_right r None h) refl
resident_result r (Some place) None e h = let same : None ≡ Some (Some place) = sym (ap (option_map (number_in r.list)) e) ∙ h.own_is in absurd (cc same)
resident_result r None (Some name) e h = let same : Some (number_in r.list name) ≡ None = sym (ap (option_map (number_in r.list)) e) ∙ h.own_is in absurd (cc same)
resident_result r (Some place) (Some name) e h =
    let same : Some (number_in r.list name) ≡ Some (Some place) = sym (ap (option_map (number_in r.list)) e) ∙ h.own_is in
    placed_right r place (number_in r.list name) (h.stays name e) (cc same) h

pub resident_right : (lists_root : List ℕ) (result_root : Option (List ℕ)) (o : Opened) (name : List ℕ) (list : Cells) (gone : Bool) (told : Option (List ℕ)) (after : List Cells)
    → AreOpened lists_root result_root o (resident_content o name list gone told after)
    → is_name name ≡ true → wrong_name None list ≡ None
    → ((root : List ℕ) → result_root ≡ Some root → (own : Option ℕ) × IsRightResident (resident_content o name list gone told after) own)
    → value_fault lists_root result_root (resident_content o name list gone told after) ≡ None
unfolding value_fault
resident_right lists_root result_root o name list gone told after opened named listed h =
    rw (openings_right lists_root result_root o (resident_content o name list gone told after) refl refl opened, named, listed, opened.named) (by_result result_root h)
  where
    by_result : (root : Option (List ℕ)) → ((given : List ℕ) → root ≡ Some given → (own : Option ℕ) × IsRightResident (resident_content o name list gone told after) own)
        → result_fault root (resident_content o name list gone told after) ≡ None
    by_result None h = refl
    by_result (Some root) h = let right = h root refl in resident_result (resident_content o name list gone told after) right.0 told refl right.1
