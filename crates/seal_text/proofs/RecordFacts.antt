-- Records that grow field by field, by the names of members.
use Rattle.std.proofs.Common.{◌≡◌, ◌<◌, ◌≤◌, ◌+◌, ℕ, zero, suc, List, [], ◌∷◌, ◌++◌, Bool, true, length, map, take, get_or, refl, sym, ap, ◌∙◌, arith, append_assoc, append-nil, rules, take_all}
use Rattle.std.specs.Prelude.{IfSome, None, Option, Some, nat_lt, slice_get}
use Rattle.std.specs.List.{list_all}
use Rattle.std.proofs.lemmas.Bool.{and_parts}
use Rattle.std.proofs.lemmas.List.{get_or-map, take_more}
use Rattle.csv.specs.Records.{Row, fields_of, partial_of}
use Rattle.records.specs.Reading.{Fields}
use Rattle.seal_text.specs.Texts.{Extends}

-- no fields were added to a record that stays as it is
pub extends_none : (a : Row) → partial_of a ≡ [] → Extends a a []
extends_none a whole = record { added = sym (append-nil (fields_of a)); whole = whole }

-- adding the first k fields to a record, and then the next field, adds the first k + 1
pub extends_more : (fields : Fields) (k : ℕ) (a b c : Row) (text : List ℕ) → k < length fields → Extends a b (take k fields) → text ≡ get_or fields k [] → Extends b c (text ∷ [])
    → Extends a c (take (k + 1) fields)
extends_more fields k a b c text within h is more = record {
  added =
      more.added ∙ ap (λ t. t ++ text ∷ []) h.added ∙ append_assoc (fields_of a) (take k fields) (text ∷ [])
      ∙ ap (λ t. fields_of a ++ t) (ap (λ x. take k fields ++ x ∷ []) is ∙ sym (take_more fields k [] within));
  whole = more.whole;
}

-- if there are at most k fields, adding the first k fields to a record adds all fields
pub extends_all : (fields : Fields) (k : ℕ) (a b : Row) → length fields ≤ k → Extends a b (take k fields) → Extends a b fields
extends_all fields k a b past h = rw (take_all k fields past) at h

-- item k of the members' names is the name of member k of the list
pub name_there : (name : ℕ → List ℕ) (members : List ℕ) (k : ℕ) (text : List ℕ) → k < length members → text ≡ name (get_or members k 0) → text ≡ get_or (map name members) k []
name_there name members k text within is = is ∙ sym (get_or-map name members k 0 [] within)

-- if all numbers on a list are below a count, the number at place k is
pub one_below : (count : ℕ) (members : List ℕ) (k : ℕ) → list_all (λ m. nat_lt m count) members ≡ true → k < length members → get_or members k 0 < count
one_below count [] k all within = absurd (omega (arith, within))
one_below count (m ∷ members) zero all within = search (rules, (and_parts (nat_lt m count) _ all).0)
one_below count (m ∷ members) (suc k) all within = one_below count members k (and_parts (nat_lt m count) _ all).1 (omega (arith, within))

-- the number that a look-up at place k of a list finds is the number at place k
pub chosen : (members : List ℕ) (k m : ℕ) → slice_get members k ≡ Some m → m ≡ get_or members k 0
chosen [] k m e = absurd (cc e)
chosen (x ∷ members) zero m e = let same : x ≡ m = cc e in sym same
chosen (x ∷ members) (suc k) m e = chosen members k m e

pub item_there : (members : List ℕ) (k m : ℕ) → k < length members → m ≡ get_or members k m → m ≡ get_or members k 0
item_there [] k m within e = absurd (omega (arith, within))
item_there (x ∷ members) zero m within e = e
item_there (x ∷ members) (suc k) m within e = item_there members k m (omega (arith, within)) e

pub if_some : (o : Option (List ℕ)) (P : List ℕ → Type 0) → ((list : List ℕ) → o ≡ Some list → P list) → IfSome o P
if_some None P h = tt
if_some (Some list) P h = h list refl
