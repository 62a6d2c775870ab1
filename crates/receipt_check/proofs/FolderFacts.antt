-- Look-ups in the receipts of a folder.
use Rattle.std.proofs.Common.{◌≡◌, ◌<◌, ◌≤◌, ℕ, zero, suc, ◌+◌, ◌||◌, if◌then◌else◌, Bool, true, false, List, [], ◌∷◌, ◌++◌, length, map, filter, take, Option, Some, None, get_or, refl, subst, sym, ap, ap₂, ◌∙◌, arith, append-nil, append_assoc}
use Rattle.std.specs.List.{All, flat_map, list_any, range_with_len}
use Rattle.std.specs.Prelude.{slice_get, slice_index_or}
use Rattle.std.proofs.lemmas.List.{length-map, get_or-map, get_or_past, map_push}
use Rattle.std.proofs.lemmas.List.Elements.{All-append, All-cons, All-filter, All-get_or, All-nil, All-push, All-same, filter-append}
use Rattle.std.proofs.lemmas.List.Folds.{list_any-append}
use Rattle.receipt_check.specs.Receipt.{Receipt, read}
use Rattle.receipt_check.specs.Faults.{plain_number}
use Rattle.receipt_check.specs.Pair.{compared_fault, content_of, is_number}
use Rattle.receipt_check.proofs.Steps.{there}
use Rattle.receipt_check.specs.Shape.{at}
use Rattle.receipt_check.specs.declared.published.Published.{Published}
use Rattle.receipt_check.specs.declared.wrong.Wrong.TheVariants.{Again}
use Rattle.receipt_check.specs.Folder.{Pairs, contents_of, file_fault, is_again, choice_pair, choice_pairs, differing_pairs, differs, file_in, file_named, files_from, has_number, is_of, member_pair, member_pairs, names_of, pairs_of, programme_pairs, receipt_at, resident_pairs, with_programme, with_resident}
use Rattle.docket_names.specs.Texts.{is_declared, number_in}
use Rattle.receipt_check.specs.Rows.{Cells, plain_text, split_rows}
use Rattle.receipt_check.specs.Held.{ArePresent, IsHeld, receipts_of}
use Rattle.receipt_check.specs.Side.{IsSide, receipt_of}
use Rattle.receipt_check.specs.declared.folder.FolderReceipts.{FolderReceipts}
use Rattle.receipt_check.specs.declared.kind.Kind.{Kind}
use Rattle.receipt_check.specs.declared.kind.Kind.TheVariants.{Programme, Resident}
use Rattle.receipt_check.specs.declared.present.PresentMembers.{PresentMembers}
use Rattle.receipt_check.specs.declared.side.ComparedReceipt.{ComparedReceipt}

-- one more receipt adds its member's name to the names of a side, if the member is of this side
pub names_push : (kind : Kind) (rs : List Receipt) (r : Receipt) → names_of kind (rs ++ r ∷ []) ≡ names_of kind rs ++ (if is_of kind r then r.name ∷ [] else [])
names_push kind rs r = ap (map (λ s. s.name)) (filter-append (is_of kind) rs (r ∷ [])) ∙ by (is_of kind r)
  where
    by : (b : Bool) → map (λ s. s.name) (filter (is_of kind) rs ++ (if b then r ∷ [] else [])) ≡ names_of kind rs ++ (if b then r.name ∷ [] else [])
    by true = map_push (λ s. s.name) (filter (is_of kind) rs) r
    by false = rw (append-nil (filter (is_of kind) rs)) (sym (append-nil (names_of kind rs)))

-- one more receipt adds its place to the places of a side's receipts, if its member is of this side
files_push_from : (kind : Kind) (k : ℕ) (rs : List Receipt) (r : Receipt)
    → files_from kind k (rs ++ r ∷ []) ≡ files_from kind k rs ++ (if is_of kind r then (k + length rs) ∷ [] else [])
unfolding files_from
files_push_from kind k [] r = let same : k + 0 ≡ k = omega arith in rw same (append-nil (if is_of kind r then k ∷ [] else []))
files_push_from kind k (s ∷ rs) r =
    let more : k + length (s ∷ rs) ≡ k + 1 + length rs = omega arith in
    rw more (ap (λ (xs : List ℕ). (if is_of kind s then k ∷ [] else []) ++ xs) (files_push_from kind (k + 1) rs r) ∙ sym (append_assoc (if is_of kind s then k ∷ [] else []) (files_from kind (k + 1) rs) _))

pub files_push : (kind : Kind) (rs : List Receipt) (r : Receipt) → files_from kind 0 (rs ++ r ∷ []) ≡ files_from kind 0 rs ++ (if is_of kind r then length rs ∷ [] else [])
files_push kind rs r = let same : 0 + length rs ≡ length rs = omega arith in rw (← same) (files_push_from kind 0 rs r)

or_swap : (a b : Bool) → (a || b) ≡ (b || a)
or_swap true true = refl
or_swap true false = refl
or_swap false true = refl
or_swap false false = refl

-- after one more receipt, a receipt of the member with number n is there exactly if the added
-- receipt or an earlier one is that member's
pub number_push : (rs : List Receipt) (r : Receipt) (n : ℕ) → has_number (rs ++ r ∷ []) n ≡ (is_number (plain_number r.index) n || has_number rs n)
number_push rs r n =
    list_any-append (λ s. is_number (plain_number s.index) n) rs (r ∷ [])
    ∙ or_swap (has_number rs n) (is_number (plain_number r.index) n || false) ∙ ap (λ b. b || has_number rs n) (or_swap (is_number (plain_number r.index) n) false)

-- the kept receipt at place k is the receipt of `sides` at place k
pub receipt_there : (h : FolderReceipts) (k : ℕ) (d : ComparedReceipt) → k < length h.receipts.items → receipt_at (receipts_of h) k ≡ receipt_of (get_or h.receipts.items k d)
receipt_there h k d within = get_or-map receipt_of h.receipts.items k d (content_of []) within

-- if the receipt's member is of the side, the member's name and the file's number were added to
-- what is kept of the side, else nothing
pub record AddsIf (kind : Kind) (r : Receipt) (file : ℕ) (old new : PresentMembers) : Type 0 where
  pub names : new.names ≡ old.names ++ (if is_of kind r then r.name ∷ [] else [])
  pub files : new.file_numbers.items ≡ old.file_numbers.items ++ (if is_of kind r then file ∷ [] else [])

pub adds_none : (kind : Kind) (r : Receipt) (file : ℕ) (old new : PresentMembers) → is_of kind r ≡ false → new ≡ old → AddsIf kind r file old new
adds_none kind r file old new other same = record {
  names = ap (λ (there : PresentMembers). there.names) same ∙ sym (rw other (append-nil old.names));
  files = ap (λ (there : PresentMembers). there.file_numbers.items) same ∙ sym (rw other (append-nil old.file_numbers.items));
}

pub adds_one : (kind : Kind) (r : Receipt) (file : ℕ) (old new : PresentMembers) → is_of kind r ≡ true → new.names ≡ old.names ++ r.name ∷ []
    → new.file_numbers.items ≡ old.file_numbers.items ++ file ∷ [] → AddsIf kind r file old new
adds_one kind r file old new its names files = record { names = rw its names; files = rw its files }

present_push : (kind : Kind) (rs : List Receipt) (r : Receipt) (old new : PresentMembers) → ArePresent kind rs old → AddsIf kind r (length rs) old new → ArePresent kind (rs ++ r ∷ []) new
present_push kind rs r old new are adds = record {
  names_are = adds.names ∙ ap (λ (names : Cells). names ++ (if is_of kind r then r.name ∷ [] else [])) are.names_are ∙ sym (names_push kind rs r);
  files_are = adds.files ∙ ap (λ (files : List ℕ). files ++ (if is_of kind r then length rs ∷ [] else [])) are.files_are ∙ sym (files_push kind rs r);
}

-- after a receipt was added, what is kept for look-ups agrees with the receipts
pub held_push : (old new : FolderReceipts) (s : ComparedReceipt) → IsHeld old → IsSide s → new.receipts.items ≡ old.receipts.items ++ s ∷ []
    → ((n : ℕ) → slice_index_or new.noted_members.items n false ≡ (is_number (plain_number (receipt_of s).index) n || slice_index_or old.noted_members.items n false))
    → AddsIf Resident (receipt_of s) (length old.receipts.items) old.residents new.residents
    → AddsIf Programme (receipt_of s) (length old.receipts.items) old.programmes new.programmes → IsHeld new
held_push old new s held side sides numbers residents programmes =
    let more : receipts_of new ≡ receipts_of old ++ receipt_of s ∷ [] = ap (map receipt_of) sides ∙ map_push receipt_of old.receipts.items s in
    let count : length (receipts_of old) ≡ length old.receipts.items = length-map old.receipts.items receipt_of in
    record {
      each = All-same IsSide new.receipts.items (old.receipts.items ++ s ∷ []) sides (All-push IsSide old.receipts.items s held.each side);
      numbers_are = λ n. numbers n ∙ ap (λ b. is_number (plain_number (receipt_of s).index) n || b) (held.numbers_are n)
          ∙ sym (number_push (receipts_of old) (receipt_of s) n) ∙ ap (λ rs. has_number rs n) (sym more);
      residents_are = rw more (present_push Resident (receipts_of old) (receipt_of s) old.residents new.residents held.residents_are (rw (← count) at residents));
      programmes_are = rw more (present_push Programme (receipts_of old) (receipt_of s) old.programmes new.programmes held.programmes_are (rw (← count) at programmes));
    }

-- the item of `sides` at place k has the kept receipt at place k
pub receipt_is : (h : FolderReceipts) (k : ℕ) (side : ComparedReceipt) → k < length h.receipts.items → side ≡ get_or h.receipts.items k side → receipt_at (receipts_of h) k ≡ receipt_of side
receipt_is h k side within is = receipt_there h k side within ∙ ap receipt_of (sym is)

-- the look-up of a member's name gives the number of the member's receipt
pub file_is : (kind : Kind) (rs : List Receipt) (there : PresentMembers) (name : List ℕ) → ArePresent kind rs there
    → file_in there.file_numbers.items (number_in there.names name) ≡ file_named kind rs name
file_is kind rs there name are = ap₂ (λ (files : List ℕ) (names : Cells). file_in files (number_in names name)) are.files_are are.names_are

-- a receipt past the last one counts as empty and lists nobody
pub lists_nobody : (h : FolderReceipts) (k : ℕ) (name : List ℕ) → length h.receipts.items ≤ k → is_declared (receipt_at (receipts_of h) k).list name ≡ false
unfolding plain_text read split_rows number_in
lists_nobody h k name past =
    let short : length (receipts_of h) ≤ k = omega (arith, past, length-map h.receipts.items receipt_of) in
    rw (get_or_past (receipts_of h) k (content_of []) short) refl

-- the place of each of a side's receipts is below the number of receipts
files_below : (kind : Kind) (k : ℕ) (rs : List Receipt) (n x : ℕ) → slice_get (files_from kind k rs) n ≡ Some x → x < k + length rs
unfolding files_from
files_below kind k [] n x there = absurd (cc there)
files_below kind k (r ∷ rs) n x there = by (λ m at. files_below kind (k + 1) rs m x at) (is_of kind r) n there
  where
    by : ((m : ℕ) → slice_get (files_from kind (k + 1) rs) m ≡ Some x → x < k + 1 + length rs) → (b : Bool) (n : ℕ)
        → slice_get ((if b then k ∷ [] else []) ++ files_from kind (k + 1) rs) n ≡ Some x → x < k + length (r ∷ rs)
    by rest true zero there = let same : k ≡ x = cc there in omega (arith, same)
    by rest true (suc n) there = let below = rest n there in omega (arith, below)
    by rest false n there = let below = rest n there in omega (arith, below)

file_below : (kind : Kind) (rs : List Receipt) (place : Option ℕ) (x : ℕ) → file_in (files_from kind 0 rs) place ≡ Some x → x < length rs
file_below kind rs None x there = absurd (cc there)
file_below kind rs (Some n) x there = let below = files_below kind 0 rs n x there in omega (arith, below)

-- both places of the pair are below n
pub record ArePlaces (n : ℕ) (pair : ℕ × ℕ) : Type 0 where
  pub first : pair.0 < n
  pub second : pair.1 < n

with_programme_within : (rs : List Receipt) (r : ℕ) (place found : Option ℕ) → r < length rs → file_in (files_from Programme 0 rs) place ≡ found → All (ArePlaces (length rs)) (with_programme r found)
with_programme_within rs r place None within is = All-nil (ArePlaces (length rs))
with_programme_within rs r place (Some p) within is =
    All-cons (ArePlaces (length rs)) (r, p) [] (record { first = within; second = file_below Programme rs place p is }) (All-nil (ArePlaces (length rs)))

with_resident_within : (rs : List Receipt) (p : ℕ) (place found : Option ℕ) → p < length rs → file_in (files_from Resident 0 rs) place ≡ found → All (ArePlaces (length rs)) (with_resident rs p found)
with_resident_within rs p place None within is = All-nil (ArePlaces (length rs))
with_resident_within rs p place (Some r) within is = by (is_declared (receipt_at rs r).list (receipt_at rs p).name)
  where
    by : (b : Bool) → All (ArePlaces (length rs)) (if b then [] else (r, p) ∷ [])
    by true = All-nil (ArePlaces (length rs))
    by false = All-cons (ArePlaces (length rs)) (r, p) [] (record { first = file_below Resident rs place r is; second = within }) (All-nil (ArePlaces (length rs)))

all_made : {A : Type 0} (P : A → Type 0) (f : ℕ → List A) (a n : ℕ) → ((k : ℕ) → k < a + n → All P (f k)) → All P (flat_map f (range_with_len a n))
all_made P f a zero each = All-nil P
all_made P f a (suc n) each =
    All-append P (f a) (flat_map f (range_with_len (a + 1) n)) (each a (omega arith)) (all_made P f (a + 1) n (λ k l. each k (omega (arith, l))))

if_all : {A : Type 0} (P : A → Type 0) (b : Bool) (xs : List A) → All P xs → All P (if b then xs else [])
if_all P true xs all = all
if_all P false xs all = All-nil P

-- both places of each pair that is compared are places of receipts
pub pairs_within : (rs : List Receipt) → All (ArePlaces (length rs)) (pairs_of rs)
unfolding pairs_of
pairs_within rs =
    let P = ArePlaces (length rs) in
    let n = length rs in
    All-append P (flat_map (resident_pairs rs) (range_with_len 0 n)) (flat_map (programme_pairs rs) (range_with_len 0 n))
    (all_made P (resident_pairs rs) 0 n (λ r l. if_all P (is_of Resident (receipt_at rs r)) (choice_pairs rs r)
    (all_made P (choice_pair rs r) 0 (length (receipt_at rs r).list) (λ k m. with_programme_within rs r _ _ (omega (arith, l)) refl))))
    (all_made P (programme_pairs rs) 0 n (λ p l. if_all P (is_of Programme (receipt_at rs p)) (member_pairs rs p)
    (all_made P (member_pair rs p) 0 (length (receipt_at rs p).after) (λ k m. with_resident_within rs p _ _ (omega (arith, l)) refl))))

-- what is kept for look-ups in the receipt at place k agrees with this receipt
pub side_is : (h : FolderReceipts) (k : ℕ) (side : ComparedReceipt) → IsHeld h → k < length h.receipts.items → side ≡ get_or h.receipts.items k side → IsSide side
side_is h k side held within is = subst IsSide (sym is) (All-get_or IsSide h.receipts.items k side within held.each)

-- both places of the k-th compared pair are places of kept receipts
pub pair_there : (h : FolderReceipts) (pairs : Pairs) (k : ℕ) → pairs ≡ pairs_of (receipts_of h) → k < length pairs → ArePlaces (length h.receipts.items) (get_or pairs k (0, 0))
pair_there h pairs k are within =
    let count = length-map h.receipts.items receipt_of in
    let P = ArePlaces (length (receipts_of h)) in
    rw (← count) (All-get_or P pairs k (0, 0) within (All-same P pairs (pairs_of (receipts_of h)) are (pairs_within (receipts_of h))))

pub differing_there : (h : FolderReceipts) (pairs : Pairs) (k : ℕ) → pairs ≡ differing_pairs (receipts_of h) → k < length pairs → ArePlaces (length h.receipts.items) (get_or pairs k (0, 0))
differing_there h pairs k are within =
    let rs = receipts_of h in
    let count = length-map h.receipts.items receipt_of in
    let P = ArePlaces (length rs) in
    rw (← count) (All-get_or P pairs k (0, 0) within (All-same P pairs (differing_pairs rs) are (All-filter (differs rs) P (pairs_of rs) (pairs_within rs))))

-- if g of a second list is h of f of a first list, this holds for the items at each place
pub at_both : {A B C D : Type 0} (f : A → C) (g : B → D) (h : C → D) (xs : List A) (ys : List B) (k : ℕ) (x : A) (y : B)
    → map g ys ≡ map h (map f xs) → k < length xs → x ≡ get_or xs k x → y ≡ get_or ys k y → g y ≡ h (f x)
at_both f g h xs ys k x y made within is also =
    let inside : k < length (map f xs) = omega (arith, within, length-map xs f) in
    let beside : k < length ys = omega (arith, within, length-map xs f, length-map (map f xs) h, length-map ys g, ap length made) in
    let one = there f xs k x (f x) within is in
    let other = there g ys k y (g y) beside also in
    sym other ∙ ap (λ zs. get_or zs k (g y)) made ∙ there h (map f xs) k (f x) (g y) inside (sym one)

-- the fault of the next file, if its receipt has no fault by itself: an earlier file has a receipt
-- of the same member, or no fault
pub fault_next : (lists outcome : Published) (files : List (List ℕ)) (k : ℕ) (again : Bool) → k < length files
    → compared_fault lists.members lists.root outcome.members outcome.root (get_or files k []) ≡ None → again ≡ is_again (take k (contents_of files)) (content_of (get_or files k []))
    → file_fault lists outcome files k ≡ (if again then Some (at 2 Again) else None)
fault_next lists outcome files k again within good is =
    let content = get_or-map content_of files k [] (content_of []) within in
    rw (good, content, ← is) refl
