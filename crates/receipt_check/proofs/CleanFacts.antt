-- The rows of a receipt in which nothing is wrong are read back as they are printed.
use Rattle.std.proofs.Common.{◌≡◌, ℕ, zero, suc, ◌+◌, ◌<◌, ◌==◌, ◌&&◌, Bool, true, false, List, [], ◌∷◌, ◌++◌, length, map, get_or, nat_le, nat_lt, Option, Some, None, option_map, is_some, take, refl, sym, ◌∙◌, arith, inl, inr, ◌⊎◌, ◌||◌}
use Rattle.std.specs.Prelude.{bytes_eq, codes, if◌then◌else◌, not}
use Rattle.std.specs.List.{position_or_len, range_with_len}
use Rattle.std.proofs.lemmas.Bool.{and_parts, cases_lt, eqb-true, le-ltb}
use Rattle.std.proofs.lemmas.List.Sums.{passes_at_first}
use Rattle.std.proofs.lemmas.Slice.Eq.{bytes_eq-Decides}
use Rattle.docket_names.specs.Words.{is_name}
use Rattle.docket_names.specs.Texts.{is_declared, number_in}
use Rattle.receipt_check.specs.Rows.{Cells, text_at}
use Rattle.receipt_check.specs.Receipt.{Receipt, answer, first_row, gone_rows, has_real_name, is_programme, last_rows, letter_of, list_place, list_rows, lists_rows_of, member_row, members, name_rows, named_place, part_rows, placed_row, reason_row, result_rows_of}
use Rattle.receipt_check.specs.Faults.{answer_wrong, can_stand, digests_of, digests_wrong, first_in, first_of, is_bare, is_before, is_full, is_on, lists_fault, members_fault, name_at, name_wrong, opening_wrong, openings_at, openings_fault, placed, plain_number, programme_fault, real_fault, reason_at, reason_wrong, reasons_fault, resident_fault, result_fault, result_fault_of, result_place, second_fault, stand_of, value_fault, wrong_name, wrong_reason}
use Rattle.receipt_check.specs.Named.{is_real}
use Rattle.receipt_check.specs.Shape.{at}
use Rattle.receipt_check.specs.declared.kind.Kind.{Kind}
use Rattle.receipt_check.specs.declared.kind.Kind.TheVariants.{Programme, Resident}
use Rattle.receipt_check.specs.declared.reasons.ChoicePlace.{ChoicePlace}
use Rattle.receipt_check.specs.declared.reasons.ChoicePlace.TheVariants.{BeforeOwn, Own, AfterOwn}
use Rattle.receipt_check.specs.declared.wrong.Wrong.TheVariants as wrong
use Rattle.receipt_check.proofs.RowFacts.{AreFields, AreRows, IsField, IsRow}
use Rattle.receipt_check.proofs.ShownFacts.{receipt_rows, result_part_rows}
use Rattle.receipt_check.proofs.FieldFacts.{decimal_field, digest_fields, name_field, no_text, plain_field, real_name_fields, root_field, word}

pub map_none : {X Y : Type 0} (f : X → Y) (o : Option X) → option_map f o ≡ None → o ≡ None
map_none f None h = refl
map_none f (Some x) h = cc h

pub first_none : {X : Type 0} (a b : Option X) → first_of a b ≡ None → (a ≡ None) × (b ≡ None)
first_none None b h = (refl, h)
first_none (Some x) b h = cc h

-- if a function is none at all places below n, it is none at place k below n
pub none_at : {X : Type 0} (f : ℕ → Option X) (n k : ℕ) → first_in f n ≡ None → k < n → f k ≡ None
none_at f zero k h l = absurd (omega arith)
none_at f (suc n) k h l =
    let parts = first_none (first_in f n) (f n) h in
    elim (cases_lt k n) [
      | inl before ↦ none_at f n k parts.0 before
      | inr last ↦ (let same : k ≡ n = omega arith in rw same parts.1)
    ]

-- Openings.

opening_fields : (root : List ℕ) (count index : ℕ) (fields : Cells) (text : List ℕ) → opening_wrong root count index fields text ≡ None → AreFields fields
unfolding opening_wrong
opening_fields root count index fields text h = by_digests (digests_of fields) refl h
  where
    by_digests : (o : Option (List (List ℕ))) → digests_of fields ≡ o → digests_wrong root count index text o ≡ None → AreFields fields
    by_digests None e k = cc k
    by_digests (Some digests) e k = digest_fields fields digests e

-- if nothing is wrong with the openings, their fields have neither commas nor line feeds
record HasOpenings (result_root : Option (List ℕ)) (r : Receipt) : Type 0 where
  count : IsField r.count
  index : IsField r.index
  opening : AreFields r.opening
  second : (root : List ℕ) → result_root ≡ Some root → AreFields r.second

second_fields : (result_root : Option (List ℕ)) (count index : ℕ) (r : Receipt) → second_fault result_root count index r ≡ None
    → (root : List ℕ) → result_root ≡ Some root → AreFields r.second
second_fields None count index r h root e = cc e
second_fields (Some given) count index r h root e = opening_fields given count index r.second _ (map_none _ _ h)

opened_by : (lists_root : List ℕ) (result_root : Option (List ℕ)) (r : Receipt) (count index : Option ℕ) → plain_number r.count ≡ count → plain_number r.index ≡ index
    → openings_at lists_root result_root r count index ≡ None → HasOpenings result_root r
opened_by lists_root result_root r None index c i h = cc h
opened_by lists_root result_root r (Some count) None c i h = cc h
opened_by lists_root result_root r (Some count) (Some index) c i h =
    let parts = first_none _ _ h in
    record {
      count = plain_field r.count count c;
      index = plain_field r.index index i;
      opening = opening_fields lists_root count index r.opening _ (map_none _ _ parts.0);
      second = second_fields result_root count index r parts.1;
    }

openings_clean : (lists_root : List ℕ) (result_root : Option (List ℕ)) (r : Receipt) → openings_fault lists_root result_root r ≡ None → HasOpenings result_root r
unfolding openings_fault
openings_clean lists_root result_root r h = opened_by lists_root result_root r (plain_number r.count) (plain_number r.index) refl refl h

-- Names.

named : (on : Option Cells) (before : Cells) (name : List ℕ) → name_wrong on before name ≡ None → is_name name ≡ true
named on before name h = by_name (is_name name) refl h
  where
    by_name : (b : Bool) → is_name name ≡ b → (if not b then Some wrong.Name else if not (is_on on name) then Some wrong.NotListed else if is_declared before name then Some wrong.Twice else None) ≡ None → is_name name ≡ true
    by_name true e k = e
    by_name false e k = cc k

each_field : (fields : Cells) → ((k : ℕ) → k < length fields → IsField (text_at fields k)) → AreFields fields
each_field [] h = tt
each_field (field ∷ rest) h = (h 0 (omega arith), each_field rest (λ k l. h (suc k) (omega (arith, l))))

field_there : (fields : Cells) (k : ℕ) → k < length fields → AreFields fields → IsField (text_at fields k)
field_there [] k l h = absurd (omega (arith, l))
field_there (field ∷ rest) zero l h = h.0
field_there (field ∷ rest) (suc k) l h = field_there rest k (omega (arith, l)) h.1

names_clean : (on : Option Cells) (names : Cells) → wrong_name on names ≡ None → AreFields names
unfolding wrong_name
names_clean on names h =
    each_field names (λ k l. name_field (get_or names k []) (named on (take k names) (get_or names k []) (map_none _ _ (none_at (name_at on names) (length names) k h l))))

-- if no name of a list has a comma or a line feed, a name that is found in the list has none
one_of : (names : Cells) (name : List ℕ) → is_some (number_in names name) ≡ true → AreFields names → IsField name
unfolding number_in
one_of names name h all =
    let first = position_or_len (bytes_eq name) names in
    elim (cases_lt first (length names)) [
      | inl l ↦
          let same : name ≡ get_or names first [] = (bytes_eq-Decides name (get_or names first [])).0 (passes_at_first (bytes_eq name) names [] l) in
          rw same (field_there names first l all)
      | inr past ↦ (let missing : nat_lt first (length names) ≡ false = le-ltb first (length names) past in let none = rw missing at h in cc none)
    ]

-- Answers.

four_fields : (fields : Cells) → length fields ≡ 4 → IsField (text_at fields 0) → IsField (text_at fields 1) → IsField (text_at fields 2) → IsField (text_at fields 3) → AreFields fields
four_fields [] e h i j k = absurd (omega (arith, e))
four_fields (a ∷ []) e h i j k = absurd (omega (arith, e))
four_fields (a ∷ b ∷ []) e h i j k = absurd (omega (arith, e))
four_fields (a ∷ b ∷ c ∷ []) e h i j k = absurd (omega (arith, e))
four_fields (a ∷ b ∷ c ∷ d ∷ []) e h i j k =
    (h, (i, (j, (k, tt))))
four_fields (a ∷ b ∷ c ∷ d ∷ x ∷ rest) e h i j k = absurd (omega (arith, e))

or_parts : (a b : Bool) → (a || b) ≡ true → (a ≡ true) ⊎ (b ≡ true)
or_parts true b h = inl refl
or_parts false b h = inr h

is_text : (text expected : List ℕ) → IsField expected → bytes_eq text expected ≡ true → IsField text
is_text text expected h e = let same : text ≡ expected = (bytes_eq-Decides text expected).0 e in rw same h

bare_fields : (expected : List ℕ) (fields : Cells) → IsField expected → is_bare expected fields ≡ true → AreFields fields
bare_fields expected fields h e =
    let size = length fields == 4 in
    let first = bytes_eq (text_at fields 0) expected in
    let one = length (text_at fields 1) == 0 in
    let two = length (text_at fields 2) == 0 in
    let three = length (text_at fields 3) == 0 in
    let a = and_parts (size && first && one && two) three e in
    let b = and_parts (size && first && one) two a.0 in
    let c = and_parts (size && first) one b.0 in
    let d = and_parts size first c.0 in
    four_fields fields (eqb-true (length fields) 4 d.0) (is_text (text_at fields 0) expected h d.1) (no_text (text_at fields 1) c.1) (no_text (text_at fields 2) b.1) (no_text (text_at fields 3) a.1)

before_fields : (f g k : List ℕ) (rank last quota : Option ℕ) → plain_number f ≡ rank → plain_number g ≡ last → plain_number k ≡ quota → is_before rank g last quota ≡ true
    → IsField f × IsField g × IsField k
before_fields f g k (Some rank) (Some last) (Some quota) r l q h = (plain_field f rank r, plain_field g last l, plain_field k quota q)
before_fields f g k (Some rank) None (Some quota) r l q h =
    let parts = and_parts ((length g == 0) && (quota == 0)) (nat_le 1 rank) h in
    (plain_field f rank r, no_text g (and_parts (length g == 0) (quota == 0) parts.0).0, plain_field k quota q)
before_fields f g k (Some rank) (Some last) None r l q h = cc h
before_fields f g k (Some rank) None None r l q h = cc h
before_fields f g k None last quota r l q h = cc h

full_fields : (fields : Cells) → is_full fields ≡ true → AreFields fields
full_fields fields e =
    let size = length fields == 4 in
    let first = bytes_eq (text_at fields 0) (codes "full") in
    let a = and_parts (size && first) (is_before (plain_number (text_at fields 1)) (text_at fields 2) (plain_number (text_at fields 2)) (plain_number (text_at fields 3))) e in
    let d = and_parts size first a.0 in
    let rest = before_fields (text_at fields 1) (text_at fields 2) (text_at fields 3) _ _ _ refl refl refl a.1 in
    four_fields fields (eqb-true (length fields) 4 d.0) (is_text (text_at fields 0) (codes "full") (word (codes "full") refl) d.1) rest.0 rest.1 rest.2

gone_fields : (fields : Cells) → is_bare (codes "withdrawn") fields ≡ true → AreFields fields
gone_fields fields e = bare_fields (codes "withdrawn") fields (word (codes "withdrawn") refl) e

unranked_fields : (fields : Cells) → is_bare (codes "unranked") fields ≡ true → AreFields fields
unranked_fields fields e = bare_fields (codes "unranked") fields (word (codes "unranked") refl) e

standing_fields : (gone : Bool) (stand : ChoicePlace) (fields : Cells) → can_stand gone stand fields ≡ true → AreFields fields
standing_fields true stand fields e = gone_fields fields e
standing_fields false BeforeOwn fields e = elim (or_parts (is_bare (codes "withdrawn") fields || is_bare (codes "unranked") fields) (is_full fields) e) [
  | inl bare ↦
      elim (or_parts (is_bare (codes "withdrawn") fields) (is_bare (codes "unranked") fields) bare) [
        | inl a ↦ gone_fields fields a
        | inr b ↦ unranked_fields fields b
      ]
  | inr full ↦ full_fields fields full
]
standing_fields false Own fields e = bare_fields (codes "matched") fields (word (codes "matched") refl) e
standing_fields false AfterOwn fields e = elim (or_parts (is_bare (codes "better") fields || is_bare (codes "unranked") fields) (is_bare (codes "withdrawn") fields) e) [
  | inl bare ↦
      elim (or_parts (is_bare (codes "better") fields) (is_bare (codes "unranked") fields) bare) [
        | inl a ↦ bare_fields (codes "better") fields (word (codes "better") refl) a
        | inr b ↦ unranked_fields fields b
      ]
  | inr gone ↦ gone_fields fields gone
]

pub can_stand_of : (gone : Bool) (stand : ChoicePlace) (fields : Cells) → reason_wrong gone stand fields ≡ None → can_stand gone stand fields ≡ true
can_stand_of gone stand fields h = by_test (can_stand gone stand fields) h
  where
    by_test : (b : Bool) → (if b then None else Some (answer_wrong fields)) ≡ None → b ≡ true
    by_test true k = refl
    by_test false k = cc k

answer_fields : (r : Receipt) (own : Option ℕ) → wrong_reason r own ≡ None → (k : ℕ) → k < length r.list → AreFields (answer r k)
unfolding wrong_reason
answer_fields r own h k l =
    standing_fields r.gone (stand_of own k) (answer r k) (can_stand_of r.gone (stand_of own k) (answer r k) (map_none _ _ (none_at (reason_at r own) (length r.list) k h l)))

-- The lists and the result.

-- if nothing is wrong with the lists, the fields of their rows have neither commas nor line feeds
record HasLists (r : Receipt) : Type 0 where
  name : IsField r.name
  quota : r.kind ≡ Programme → IsField r.quota
  list : AreFields r.list
  named : AreFields r.named

quota_field : (digits : List ℕ) (o : Option ℕ) → plain_number digits ≡ o → not (is_some o) ≡ false → IsField digits
quota_field digits None e h = cc h
quota_field digits (Some n) e h = plain_field digits n e

named_clean : (place : ℕ) (named : Cells) → (if has_real_name named && not (is_real named) then Some (at place wrong.RealName) else None) ≡ None → AreFields named
named_clean place [] h = tt
named_clean place (piece ∷ rest) h = by_real (is_real (piece ∷ rest)) refl h
  where
    by_real : (b : Bool) → is_real (piece ∷ rest) ≡ b → (if not b then Some (at place wrong.RealName) else None) ≡ None → AreFields (piece ∷ rest)
    by_real true e k = real_name_fields (piece ∷ rest) e
    by_real false e k = cc k

lists_clean : (r : Receipt) → lists_fault r ≡ None → HasLists r
lists_clean r h = by_test (is_name r.name) (is_programme r.kind && not (is_some (plain_number r.quota))) refl refl h
  where
    by_test : (is_named is_wrong : Bool) → is_name r.name ≡ is_named → (is_programme r.kind && not (is_some (plain_number r.quota))) ≡ is_wrong
        → (if not is_named then Some (at 0 wrong.Name) else if is_wrong then Some (at 3 wrong.Numbers) else first_of (placed (λ k. list_place r.has_list) (wrong_name None r.list)) (real_fault r)) ≡ None → HasLists r
    by_test false is_wrong n q k = cc k
    by_test true true n q k = cc k
    by_test true false n q k = let parts = first_none (placed (λ k. list_place r.has_list) (wrong_name None r.list)) (real_fault r) k in record {
      name = name_field r.name n;
      quota = λ e. quota_field r.quota (plain_number r.quota) refl (rw e at q);
      list = names_clean None r.list (map_none _ _ parts.0);
      named = named_clean (named_place r.has_list r.gone) r.named parts.1;
    }

members_clean : (r : Receipt) (quota : Option ℕ) → programme_fault r quota ≡ None → AreFields (members r)
members_clean r None h = cc h
members_clean r (Some quota) h = by_test (nat_lt quota (length r.after)) (r.gone && nat_lt 0 (length r.after)) h
  where
    by_test : (a b : Bool) → (if a then Some (at (result_place r 0) wrong.Numbers) else if b then Some (at (result_place r 0) wrong.Gone) else members_fault r) ≡ None → AreFields (members r)
    by_test true b k = cc k
    by_test false true k = cc k
    by_test false false k = names_clean (Some r.list) (members r) (map_none _ _ k)

-- if nothing is wrong with a resident's result, its fields have neither commas nor line feeds
record HasReasons (r : Receipt) : Type 0 where
  own : (own : List ℕ) → r.own ≡ Some own → IsField own
  answers : (k : ℕ) → k < length r.list → AreFields (answer r k)

reasons_clean : (r : Receipt) (own : Option (List ℕ)) → r.own ≡ own → AreFields r.list → resident_fault r own ≡ None → HasReasons r
reasons_clean r None e list h = record {
  own = λ own o. (let none : None ≡ Some own = sym e ∙ o in cc none);
  answers = answer_fields r None (map_none _ _ h);
}
reasons_clean r (Some own) e list h = by_test r.gone (is_some (number_in r.list own)) refl h
  where
    by_test : (gone found : Bool) → is_some (number_in r.list own) ≡ found
        → (if gone then Some (at (result_place r 0) wrong.Gone) else if not found then Some (at (result_place r 0) wrong.NotListed) else reasons_fault r (number_in r.list own)) ≡ None → HasReasons r
    by_test true found f k = cc k
    by_test false false f k = cc k
    by_test false true f k = record {
      own = λ other o. (let same : own ≡ other = cc (sym e ∙ o) in rw (← same) (one_of r.list own f list));
      answers = answer_fields r (number_in r.list own) (map_none _ _ k);
    }

-- The rows.

side : (kind : Kind) → IsField (letter_of kind)
side Programme = word (codes "P") refl
side Resident = word (codes "R") refl

rows_and : (a b : List Cells) → AreRows a → AreRows b → AreRows (a ++ b)
rows_and [] b h k = k
rows_and (row ∷ rows) b h k = (h.0, rows_and rows b h.1 k)

gone_clean : (r : Receipt) → IsField r.name → AreRows (gone_rows r)
gone_clean r n = by_gone r.gone
  where
    by_gone : (gone : Bool) → AreRows (if gone then (codes "W" ∷ letter_of r.kind ∷ r.name ∷ []) ∷ [] else [])
    by_gone true = ((word (codes "W") refl, (side r.kind, (n, tt))), tt)
    by_gone false = tt

name_clean : (named : Cells) → AreFields named → AreRows (name_rows named)
name_clean [] h = tt
name_clean (piece ∷ rest) h = ((word (codes "N") refl, h), tt)

last_clean : (r : Receipt) → HasLists r → AreRows (last_rows r)
last_clean r h = rows_and (gone_rows r) (name_rows r.named) (gone_clean r h.name) (name_clean r.named h.named)

list_clean : (r : Receipt) → IsField r.name → AreFields r.list → AreRows (list_rows r)
list_clean r n l = by_list r.has_list
  where
    by_list : (has_list : Bool) → AreRows (if has_list then (codes "P" ∷ r.name ∷ r.list) ∷ [] else [])
    by_list true = ((word (codes "P") refl, (n, l)), tt)
    by_list false = tt

lists_rows_clean : (kind : Kind) (r : Receipt) → r.kind ≡ kind → HasLists r → AreRows (lists_rows_of kind r)
lists_rows_clean Programme r e h =
    ((word (codes "Q") refl, (h.name, (h.quota e, tt))), rows_and (list_rows r) (last_rows r) (list_clean r h.name h.list) (last_clean r h))
lists_rows_clean Resident r e h = ((word (codes "R") refl, (h.name, h.list)), last_clean r h)

-- if nothing is wrong with a member's lists, their rows can be printed and read back
pub lists_are_rows : (r : Receipt) → lists_fault r ≡ None → AreRows (lists_rows_of r.kind r)
lists_are_rows r h = lists_rows_clean r.kind r refl (lists_clean r h)

part_clean : (expected root count index : List ℕ) (opening : Cells) → IsField expected → IsField count → IsField index → AreFields opening → AreRows (part_rows expected root count index opening)
part_clean expected root count index opening w c i o =
    ((w, (c, (root_field root, tt))), ((word (codes "opens") refl, (w, (i, o))), tt))

members_rows_clean : (name : List ℕ) (names : Cells) → IsField name → AreFields names → AreRows (map (member_row name) names)
members_rows_clean name [] n h = tt
members_rows_clean name (m ∷ names) n h =
    ((word (codes "M") refl, (h.0, (n, tt))), members_rows_clean name names n h.1)

range_clean : (f : ℕ → Cells) (a n : ℕ) → ((k : ℕ) → k < a + n → IsRow (f k)) → AreRows (map f (range_with_len a n))
range_clean f a zero h = tt
range_clean f a (suc n) h = (h a (omega arith), range_clean f (a + 1) n (λ k l. h k (omega (arith, l))))

placed_clean : (name : List ℕ) (own : Option (List ℕ)) → IsField name → ((o : List ℕ) → own ≡ Some o → IsField o) → IsRow (placed_row name own)
placed_clean name None n h = (word (codes "U") refl, (n, tt))
placed_clean name (Some own) n h = (word (codes "M") refl, (n, (h own refl, tt)))

result_rows_clean : (kind : Kind) (r : Receipt) → r.kind ≡ kind → HasLists r → result_fault_of kind r ≡ None → AreRows (result_rows_of kind r)
result_rows_clean Programme r e h none =
    ((word (codes "F") refl, (h.name, (decimal_field (length r.after), (h.quota e, tt)))), members_rows_clean r.name (members r) h.name (members_clean r (plain_number r.quota) none))
result_rows_clean Resident r e h none =
    let reasons = reasons_clean r r.own refl h.list none in
    (placed_clean r.name r.own h.name reasons.own, range_clean (reason_row r) 0 (length r.list) (λ k l. reason_clean k (omega (arith, l))))
  where
    reason_clean : (k : ℕ) → k < length r.list → IsRow (reason_row r k)
    reason_clean k within = (h.name, (field_there r.list k within h.list, (decimal_field (k + 1), (reasons_clean r r.own refl h.list none).answers k within)))

result_part_clean : (result_root : Option (List ℕ)) (r : Receipt) → HasOpenings result_root r → HasLists r → result_fault result_root r ≡ None → AreRows (result_part_rows result_root r)
result_part_clean None r o h none = tt
result_part_clean (Some root) r o h none =
    rows_and (part_rows (codes "result") root r.count r.index r.second) (result_rows_of r.kind r)
    (part_clean (codes "result") root r.count r.index r.second (word (codes "result") refl) o.count o.index (o.second root refl)) (result_rows_clean r.kind r refl h none)

pub rows_clean : (lists_root : List ℕ) (result_root : Option (List ℕ)) (r : Receipt) → value_fault lists_root result_root r ≡ None → AreRows (receipt_rows lists_root result_root r)
unfolding value_fault
rows_clean lists_root result_root r h =
    let first = first_none _ _ h in
    let rest = first_none _ _ first.1 in
    let openings = openings_clean lists_root result_root r first.0 in
    let lists = lists_clean r rest.0 in
    rows_and (first_row r ∷ part_rows (codes "lists") lists_root r.count r.index r.opening) (lists_rows_of r.kind r ++ result_part_rows result_root r)
    ((word (codes "receipt") refl, (word (codes "2") refl, (side r.kind, (lists.name, tt)))), part_clean (codes "lists") lists_root r.count r.index r.opening (word (codes "lists") refl) openings.count openings.index openings.opening)
    (rows_and (lists_rows_of r.kind r) (result_part_rows result_root r) (lists_rows_clean r.kind r refl lists) (result_part_clean result_root r openings lists rest.1))
