-- A leaf's text determines its member: the lines of the text are read back as the rows that were
-- written.
use Rattle.std.proofs.Common.{zero, suc, ◌≡◌, ◌≢◌, ◌==◌, ℕ, ◌<◌, ◌≤◌, ◌^◌, List, [], ◌∷◌, ◌++◌, Bool, true, false, Option, Some, None, length, map, get_or, refl, sym, ap, ◌∙◌, append-nil, arith, zero-add}
use Rattle.std.specs.List.{range_with_len}
use Rattle.std.specs.Str.Parse.{digits_value}
use Rattle.std.proofs.lemmas.Fmt.{decimal_is_IsNumeral}
use Rattle.std.proofs.lemmas.List.FromFn.{length-map-range_with_len, get_or-map-range_with_len}
use Rattle.std.specs.Prelude.{codes, decimal, option_map}
use Rattle.csv.specs.Records.{field_at}
use Rattle.csv.specs.Writing.{default_writer, escaped, field_text, fields_text, is_blank}
use Rattle.records.specs.RowText.{row, row_setup}
use Rattle.docket.specs.Contents.{Contents}
use Rattle.docket.specs.Texts.{programme_name, resident_name}
use Rattle.match_model.specs.Instance.{is_withdrawn, quota}
use Rattle.match_model.specs.Draft.{Draft}
use Rattle.records.specs.Reading.{Fields, rows_of, field}
use Rattle.records.specs.Lines.{line, lines}
use Rattle.records.proofs.RoundFacts.{AreLettered, IsLettered, both_lettered, lines_round}
use Rattle.reasons_text.specs.RealNames.{Real}
use Rattle.seal_text.specs.Laws.{SameTextsLaw, IsOneProgramme, IsOneResident}
use Rattle.seal_text.specs.Texts.{line_if, list_of_programme, list_of_resident, list_record, name_record, programme_lists, resident_lists, withdrawal_if}

-- the docket's rows are written as csv's default writer writes them
same_escaped : (x : List ℕ) → escaped row_setup x ≡ escaped default_writer x
unfolding escaped
same_escaped [] = refl
same_escaped (b ∷ rest) = rw (same_escaped rest) refl

same_field : (x : List ℕ) → field_text row_setup x ≡ field_text default_writer x
same_field x = rw (same_escaped x) refl

same_fields : (fields : Fields) → fields_text row_setup fields ≡ fields_text default_writer fields
unfolding fields_text
same_fields [] = refl
same_fields (f ∷ rest) =
    ap (λ (t : List ℕ). 44 ∷ (t ++ fields_text row_setup rest)) (same_field f)
    ∙ ap (λ (t : List ℕ). 44 ∷ (field_text default_writer f ++ t)) (same_fields rest)

row_is_line : (a b : List ℕ) (rest : Fields) → row (a ∷ b ∷ rest) ≡ line (a ∷ b ∷ rest)
unfolding row line is_blank
row_is_line a b rest =
    ap (λ (t : List ℕ). (t ++ fields_text row_setup (b ∷ rest)) ++ 10 ∷ []) (same_field a)
    ∙ ap (λ (t : List ℕ). (field_text default_writer a ++ t) ++ 10 ∷ []) (same_fields (b ∷ rest))

-- the record as a list of rows: one, or none
option_rows : Option Fields → List Fields
option_rows None = []
option_rows (Some r) = r ∷ []

-- the W row of a member, if the member is withdrawn
gone_row : Bool → List ℕ → List ℕ → Option Fields
gone_row true side name = Some (codes "W" ∷ side ∷ name ∷ [])
gone_row false side name = None

lines_option : (o : Option Fields) (rest : List Fields) → line_if o ++ lines rest ≡ lines (option_rows o ++ rest)
unfolding lines option_rows
lines_option None rest = refl
lines_option (Some r) rest = refl

line_gone : (gone : Bool) (side name : List ℕ) → withdrawal_if gone side name ≡ line_if (gone_row gone side name)
unfolding gone_row
line_gone true side name = row_is_line (codes "W") side (name ∷ [])
line_gone false side name = refl

-- the lines of a member's withdrawal and real name are those of their rows
lines_tail : (gone : Bool) (side name : List ℕ) (real : Option Fields) → withdrawal_if gone side name ++ line_if real ≡ lines (option_rows (gone_row gone side name) ++ option_rows real)
unfolding lines
lines_tail gone side name real =
    let own : line_if real ≡ lines (option_rows real) = sym (append-nil (line_if real)) ∙ lines_option real [] ∙ ap lines (append-nil (option_rows real)) in
    ap (λ (t : List ℕ). t ++ line_if real) (line_gone gone side name) ∙ ap (λ (t : List ℕ). line_if (gone_row gone side name) ++ t) own
    ∙ lines_option (gone_row gone side name) (option_rows real)

lines_first : (a b : List ℕ) (rest : Fields) (more : List Fields) → row (a ∷ b ∷ rest) ++ lines more ≡ lines ((a ∷ b ∷ rest) ∷ more)
unfolding lines
lines_first a b rest more = ap (λ (t : List ℕ). t ++ lines more) (row_is_line a b rest)

-- a record whose field 0 is one letter begins with no byte order mark
lettered : (r : Fields) (c : ℕ) → field r 0 ≡ c ∷ [] → (c == 239) ≡ false → IsLettered r
unfolding field field_at
lettered [] c h k = absurd (cc h)
lettered (first ∷ rest) c h k = record { letter = c; rest = rest; is = ap (λ (t : List ℕ). t ∷ rest) h; no_mark = k }

apart : (a b : ℕ) → a ≢ b → a ≡ b → ⊥
apart a b other same = other same

-- the record, if there is one, has this letter in field 0
Leads : ℕ → Option Fields → Type 0
Leads c o = (r : Fields) → o ≡ Some r → field r 0 ≡ c ∷ []

Without : ℕ → List Fields → Type 0
Without c rows = (r : Fields) (rest : List Fields) → rows ≡ r ∷ rest → field r 0 ≡ c ∷ [] → ⊥

without_none : (c : ℕ) → Without c []
unfolding Without
without_none c r rest e lead = cc e

without_option : (c k : ℕ) (o : Option Fields) (rest : List Fields) → (c ≡ k → ⊥) → Leads k o → Without c rest → Without c (option_rows o ++ rest)
unfolding Without Leads option_rows
without_option c k None rest other l w = w
without_option c k (Some s) rest other l w = λ r more e lead.
    let same : s ≡ r = cc e in
    let both : c ∷ [] ≡ k ∷ [] = sym lead ∙ ap (λ (x : Fields). field x 0) (sym same) ∙ l s refl in
    other (cc both)

-- if two equal lists of rows may each begin with a record of this letter and have no other such
-- row, their records and their other rows are equal
option_told : (c : ℕ) (o o' : Option Fields) (rest rest' : List Fields) → Leads c o → Leads c o' → Without c rest → Without c rest'
    → option_rows o ++ rest ≡ option_rows o' ++ rest' → (o ≡ o') × (rest ≡ rest')
unfolding option_rows Leads Without
option_told c None None rest rest' l l' w w' e = (refl, e)
option_told c None (Some r) rest rest' l l' w w' e = absurd (w r rest' e (l' r refl))
option_told c (Some r) None rest rest' l l' w w' e = absurd (w' r rest (sym e) (l r refl))
option_told c (Some r) (Some s) rest rest' l l' w w' e = let first : r ≡ s = cc e in (rw first refl, cc e)

option_parts : (c : ℕ) (o : Option Fields) → Leads c o → (c == 239) ≡ false → AreLettered (option_rows o)
unfolding option_rows AreLettered Leads
option_parts c None l h = tt
option_parts c (Some r) l h = (lettered r c (l r refl) h, tt)

gone_leads : (gone : Bool) (side name : List ℕ) → Leads 87 (gone_row gone side name)
unfolding Leads gone_row field field_at
gone_leads true side name r e = let same : (codes "W" ∷ side ∷ name ∷ []) ≡ r = cc e in rw (← same) refl
gone_leads false side name r e = absurd (cc e)

gone_told : (g g' : Bool) (side side' name name' : List ℕ) → gone_row g side name ≡ gone_row g' side' name' → g ≡ g'
unfolding gone_row
gone_told true true side side' name name' e = refl
gone_told true false side side' name name' e = absurd (cc e)
gone_told false true side side' name name' e = absurd (cc e)
gone_told false false side side' name name' e = refl

real_leads : (real : Option Fields) → Leads 78 (name_record real)
unfolding Leads field field_at
real_leads None r e = absurd (cc e)
real_leads (Some fields) r e = let same : codes "N" ∷ fields ≡ r = cc e in rw (← same) refl

real_told : (real real' : Option Fields) → name_record real ≡ name_record real' → real ≡ real'
real_told None None e = refl
real_told None (Some fields) e = absurd (cc e)
real_told (Some fields) None e = absurd (cc e)
real_told (Some fields) (Some fields') e = let same : fields ≡ fields' = cc e in rw same refl

-- the rows of a member's withdrawal and of the real name, of which each may be missing
tail_rows : Bool → List ℕ → List ℕ → Option Fields → List Fields
tail_rows gone side name real = option_rows (gone_row gone side name) ++ option_rows (name_record real)

tail_parts : (gone : Bool) (side name : List ℕ) (real : Option Fields) → AreLettered (tail_rows gone side name real)
unfolding tail_rows
tail_parts gone side name real =
    both_lettered (option_rows (gone_row gone side name)) (option_rows (name_record real)) (option_parts 87 (gone_row gone side name) (gone_leads gone side name) refl)
    (option_parts 78 (name_record real) (real_leads real) refl)

no_name : (c : ℕ) (real : Option Fields) → (c ≡ 78 → ⊥) → Without c (option_rows (name_record real))
no_name c real other = let w = without_option c 78 (name_record real) [] other (real_leads real) (without_none c) in rw (append-nil (option_rows (name_record real))) at w

tail_without : (gone : Bool) (side name : List ℕ) (real : Option Fields) → Without 80 (tail_rows gone side name real)
unfolding tail_rows
tail_without gone side name real = without_option 80 87 (gone_row gone side name) _ (apart 80 87 (omega arith)) (gone_leads gone side name) (no_name 80 real (apart 80 78 (omega arith)))

tail_told : (g g' : Bool) (side side' name name' : List ℕ) (real real' : Option Fields) → tail_rows g side name real ≡ tail_rows g' side' name' real' → (g ≡ g') × (real ≡ real')
unfolding tail_rows option_rows
tail_told g g' side side' name name' real real' e =
    let gone = option_told 87 (gone_row g side name) (gone_row g' side' name') _ _ (gone_leads g side name) (gone_leads g' side' name')
    (no_name 87 real (apart 87 78 (omega arith))) (no_name 87 real' (apart 87 78 (omega arith))) e in
    let both : option_rows (name_record real) ++ [] ≡ option_rows (name_record real') ++ [] = append-nil (option_rows (name_record real)) ∙ gone.1 ∙ sym (append-nil (option_rows (name_record real'))) in
    let named = option_told 78 (name_record real) (name_record real') [] [] (real_leads real) (real_leads real') (without_none 78) (without_none 78) both in
    (gone_told g g' side side' name name' gone.0, real_told real real' named.0)

-- two lists of rows that begin with letters are equal if their lines are
lines_tell : (a b : List Fields) → AreLettered a → AreLettered b → lines a ≡ lines b → a ≡ b
lines_tell a b h k e = sym (lines_round a h) ∙ ap rows_of e ∙ lines_round b k

-- a list's record begins with the letter of its side, and two lists with equal records are equal
list_leads : (c : ℕ) (owner : List ℕ) (list : Option (List (List ℕ))) → Leads c (option_map (list_record (c ∷ []) owner) list)
unfolding Leads field field_at
list_leads c owner None r e = absurd (cc e)
list_leads c owner (Some names) r e = let same : (c ∷ []) ∷ owner ∷ names ≡ r = cc e in rw (← same) refl

list_told : (letter owner owner' : List ℕ) (list list' : Option (List (List ℕ))) → option_map (list_record letter owner) list ≡ option_map (list_record letter owner') list' → list ≡ list'
list_told letter owner owner' None None e = refl
list_told letter owner owner' None (Some names) e = absurd (cc e)
list_told letter owner owner' (Some names) None e = absurd (cc e)
list_told letter owner owner' (Some names) (Some names') e = let same : names ≡ names' = cc e in rw same refl

programme_text : (d : Contents) (draft : Draft) (real : Real) (p : ℕ) → programme_lists d draft real p
    ≡ lines ((codes "Q" ∷ programme_name d p ∷ decimal (quota d.instance p) ∷ []) ∷ (option_rows (option_map (list_record (codes "P") (programme_name d p)) (list_of_programme d draft p))
    ++ tail_rows (is_withdrawn d.instance.programmes_withdrawn p) (codes "P") (programme_name d p) (get_or real.programmes p None)))
unfolding programme_lists tail_rows
programme_text d draft real p =
    let list = option_map (list_record (codes "P") (programme_name d p)) (list_of_programme d draft p) in
    let g = is_withdrawn d.instance.programmes_withdrawn p in
    let n = get_or real.programmes p None in
    ap (λ (t : List ℕ). row (codes "Q" ∷ programme_name d p ∷ decimal (quota d.instance p) ∷ []) ++ (line_if list ++ t)) (lines_tail g (codes "P") (programme_name d p) (name_record n))
    ∙ ap (λ (t : List ℕ). row (codes "Q" ∷ programme_name d p ∷ decimal (quota d.instance p) ∷ []) ++ t) (lines_option list (tail_rows g (codes "P") (programme_name d p) n))
    ∙ lines_first (codes "Q") (programme_name d p) (decimal (quota d.instance p) ∷ []) (option_rows list ++ tail_rows g (codes "P") (programme_name d p) n)

resident_text : (d : Contents) (draft : Draft) (real : Real) (r : ℕ) → resident_lists d draft real r
    ≡ lines (list_record (codes "R") (resident_name d r) (list_of_resident d draft r) ∷ tail_rows (is_withdrawn d.instance.residents_withdrawn r) (codes "R") (resident_name d r) (get_or real.residents r None))
unfolding resident_lists lines tail_rows
resident_text d draft real r =
    ap (λ (t : List ℕ). line (list_record (codes "R") (resident_name d r) (list_of_resident d draft r)) ++ t)
    (lines_tail (is_withdrawn d.instance.residents_withdrawn r) (codes "R") (resident_name d r) (name_record (get_or real.residents r None)))

-- two numbers below 2 ^ 64 are equal if their decimal digits are
decimal_tells : (m n : ℕ) → m < 2 ^ 64 → n < 2 ^ 64 → decimal m ≡ decimal n → m ≡ n
decimal_tells m n h k e = sym (decimal_is_IsNumeral m h).1 ∙ ap (digits_value 10) e ∙ (decimal_is_IsNumeral n k).1

-- if two lists of rows have the same lines, and their first rows begin with the same letter, their
-- first rows are equal, and so are their other rows
first_and_more : (c : ℕ) (a b : Fields) (more more' : List Fields) → (c == 239) ≡ false → field a 0 ≡ c ∷ [] → field b 0 ≡ c ∷ [] → AreLettered more → AreLettered more'
    → lines (a ∷ more) ≡ lines (b ∷ more') → (a ≡ b) × (more ≡ more')
unfolding AreLettered
first_and_more c a b more more' no_mark first first' m m' s =
    let all : a ∷ more ≡ b ∷ more' = lines_tell (a ∷ more) (b ∷ more') (lettered a c first no_mark, m) (lettered b c first' no_mark, m') s in
    (cc all, cc all)

first_is : (letter : List ℕ) (rest : Fields) → field (letter ∷ rest) 0 ≡ letter
unfolding field field_at
first_is letter rest = refl

-- if the same text is sealed for a programme in two dockets, the programme has the same name,
-- quota, list, withdrawal and real name in both
one_programme : (d d' : Contents) (draft draft' : Draft) (real real' : Real) (p : ℕ) → quota d.instance p ≤ 10000 → quota d'.instance p ≤ 10000
    → programme_lists d draft real p ≡ programme_lists d' draft' real' p → IsOneProgramme d d' draft draft' real real' p
one_programme d d' draft draft' real real' p h k e =
    let n = programme_name d p in
    let n' = programme_name d' p in
    let o = option_map (list_record (codes "P") n) (list_of_programme d draft p) in
    let o' = option_map (list_record (codes "P") n') (list_of_programme d' draft' p) in
    let l : Leads 80 o = list_leads 80 n (list_of_programme d draft p) in
    let l' : Leads 80 o' = list_leads 80 n' (list_of_programme d' draft' p) in
    let g = is_withdrawn d.instance.programmes_withdrawn p in
    let g' = is_withdrawn d'.instance.programmes_withdrawn p in
    let m = get_or real.programmes p None in
    let m' = get_or real'.programmes p None in
    let first : Fields = codes "Q" ∷ n ∷ decimal (quota d.instance p) ∷ [] in
    let first' : Fields = codes "Q" ∷ n' ∷ decimal (quota d'.instance p) ∷ [] in
    let same = first_and_more 81 first first' (option_rows o ++ tail_rows g (codes "P") n m) (option_rows o' ++ tail_rows g' (codes "P") n' m') refl (first_is (codes "Q") _) (first_is (codes "Q") _)
    (both_lettered (option_rows o) _ (option_parts 80 o l refl) (tail_parts g (codes "P") n m)) (both_lettered (option_rows o') _ (option_parts 80 o' l' refl) (tail_parts g' (codes "P") n' m'))
    (sym (programme_text d draft real p) ∙ e ∙ programme_text d' draft' real' p) in
    let name : n ≡ n' = cc same.0 in
    let digits : decimal (quota d.instance p) ≡ decimal (quota d'.instance p) = cc same.0 in
    let list = option_told 80 o o' (tail_rows g (codes "P") n m) (tail_rows g' (codes "P") n' m') l l' (tail_without g (codes "P") n m) (tail_without g' (codes "P") n' m') same.1 in
    let tail = tail_told g g' (codes "P") (codes "P") n n' m m' list.1 in
    record {
      name = name;
      quota_is = decimal_tells (quota d.instance p) (quota d'.instance p) (few (quota d.instance p) h) (few (quota d'.instance p) k) digits;
      list = list_told (codes "P") n n' (list_of_programme d draft p) (list_of_programme d' draft' p) list.0;
      withdrawn = tail.0;
      real_name = tail.1;
    }
  where
    few : (n : ℕ) → n ≤ 10000 → n < 2 ^ 64
    few n l = omega arith

-- if the same text is sealed for a resident in two dockets, the resident has the same name, list,
-- withdrawal and real name in both
one_resident : (d d' : Contents) (draft draft' : Draft) (real real' : Real) (r : ℕ) → resident_lists d draft real r ≡ resident_lists d' draft' real' r
    → IsOneResident d d' draft draft' real real' r
one_resident d d' draft draft' real real' r e =
    let n = resident_name d r in
    let n' = resident_name d' r in
    let g = is_withdrawn d.instance.residents_withdrawn r in
    let g' = is_withdrawn d'.instance.residents_withdrawn r in
    let m = get_or real.residents r None in
    let m' = get_or real'.residents r None in
    let first : Fields = list_record (codes "R") n (list_of_resident d draft r) in
    let first' : Fields = list_record (codes "R") n' (list_of_resident d' draft' r) in
    let same = first_and_more 82 first first' (tail_rows g (codes "R") n m) (tail_rows g' (codes "R") n' m') refl (first_is (codes "R") _) (first_is (codes "R") _)
    (tail_parts g (codes "R") n m) (tail_parts g' (codes "R") n' m') (sym (resident_text d draft real r) ∙ e ∙ resident_text d' draft' real' r) in
    let tail = tail_told g g' (codes "R") (codes "R") n n' m m' same.1 in
    record { name = cc same.0; list = cc same.0; withdrawn = tail.0; real_name = tail.1 }

cut_alike : {A : Type 0} (xs xs' ys ys' : List A) → length xs ≡ length xs' → xs ++ ys ≡ xs' ++ ys' → (xs ≡ xs') × (ys ≡ ys')
cut_alike [] [] ys ys' l e = (refl, e)
cut_alike [] (x ∷ xs') ys ys' l e = absurd (omega arith)
cut_alike (x ∷ xs) [] ys ys' l e = absurd (omega arith)
cut_alike (x ∷ xs) (y ∷ xs') ys ys' l e =
    let first : x ≡ y = cc e in
    let rest : xs ++ ys ≡ xs' ++ ys' = cc e in
    let same = cut_alike xs xs' ys ys' (omega arith) rest in
    (rw (first, same.0) refl, same.1)

-- if two functions make equal lists of the first n numbers, they have the same value at each number
-- below n
each_alike : (f f' : ℕ → List ℕ) (n m : ℕ) → map f (range_with_len 0 n) ≡ map f' (range_with_len 0 m) → n ≡ m → (k : ℕ) → k < n → f k ≡ f' k
each_alike f f' n m e same k l =
    sym (get_or-map-range_with_len f 0 n k k [] l (zero-add k)) ∙ ap (λ (t : List (List ℕ)). get_or t k []) e
    ∙ get_or-map-range_with_len f' 0 m k k [] (omega arith) (zero-add k)

pub same_texts : SameTextsLaw
same_texts d d' draft draft' real real' h k many e =
    let P = length d.instance.quotas in
    let P' = length d'.instance.quotas in
    let R = length d.instance.resident_lists in
    let R' = length d'.instance.resident_lists in
    let fits = length-map-range_with_len (programme_lists d draft real) 0 P in
    let fits' = length-map-range_with_len (programme_lists d' draft' real') 0 P' in
    let cut = cut_alike (map (programme_lists d draft real) (range_with_len 0 P)) (map (programme_lists d' draft' real') (range_with_len 0 P'))
    (map (resident_lists d draft real) (range_with_len 0 R)) (map (resident_lists d' draft' real') (range_with_len 0 R')) (fits ∙ many ∙ sym fits') e in
    let count : R ≡ R' = sym (length-map-range_with_len (resident_lists d draft real) 0 R) ∙ ap (λ (t : List (List ℕ)). length t) cut.1 ∙ length-map-range_with_len (resident_lists d' draft' real') 0 R' in
    record {
      count = count;
      programmes = λ p l. one_programme d d' draft draft' real real' p (h p) (k p) (each_alike (programme_lists d draft real) (programme_lists d' draft' real') P P' cut.0 many p l);
      residents = λ r l. one_resident d d' draft draft' real real' r (each_alike (resident_lists d draft real) (resident_lists d' draft' real') R R' cut.1 count r l);
    }
