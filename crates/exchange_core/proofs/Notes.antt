-- Which notes a part of the row has after a note is added to it or removed from it.
use Rattle.std.proofs.Common.{◌≡◌, ◌≢◌, ℕ, zero, suc, ◌+◌, ◌-◌, ◌<◌, ◌≤◌, Bool, ◌⊎◌, inl, inr, List, [], ◌∷◌, ◌++◌, Some, length, drop, map, get_or, slice_get, refl, sym, ap, ◌∙◌, subst, arith, zero-add, ⊎_elim}
use Rattle.std.specs.Prelude.{slice_set, if◌then◌else◌}
use Rattle.std.specs.List.{range_with_len}
use Rattle.std.proofs.lemmas.Bool.{cases_lt, cases_eq, lt-ltb, le-ltb, eq-eqb, ne_eqb}
use Rattle.std.proofs.lemmas.List.{same_lists, length-set, length-map, get_or-map, get_or-set_same, get_or-set_other, get_or_append_left, get_or_at, length_push}
use Rattle.std.proofs.lemmas.List.FromFn.{length-map-range_with_len, get_or-map-range_with_len, map-range_with_len_more, fill_by_all}
use Rattle.exchange_core.specs.declared.part.Part.{Part}
use Rattle.exchange_core.specs.Notes.{wrapped, place_in, waiting_in, IsRing, opened, pushed, popped, span, AreLaid}

-- ---- where notes stand in the row

wrapped_low : (room k : ℕ) → k < room → wrapped room k ≡ k
wrapped_low room k h = ap (λ (b : Bool). if b then k else k - room) (lt-ltb k room h)

wrapped_high : (room k : ℕ) → room ≤ k → wrapped room k ≡ k - room
wrapped_high room k h = ap (λ (b : Bool). if b then k else k - room) (le-ltb k room h)

-- a note stands between its part's start and its part's end
pub place_within : (part : Part) (k : ℕ) → IsRing part → k < part.room → (part.start ≤ place_in part k) × (place_in part k < part.start + part.room)
place_within part k ring h =
    ⊎_elim (λ (l : part.front + k < part.room). let e = wrapped_low part.room (part.front + k) l in (omega (arith, e, l), omega (arith, e, l)))
    (λ (l : part.room ≤ part.front + k). let e = wrapped_high part.room (part.front + k) l in (omega (arith, e, l), omega (arith, e, l, ring.front_within, h)))
    (cases_lt (part.front + k) part.room)

-- two different notes of a part stand at different entries of the row
pub places_apart : (part : Part) (k m : ℕ) → IsRing part → k < m → m < part.room → place_in part k ≢ place_in part m
places_apart part k m ring h l e = go (cases_lt (part.front + k) part.room) (cases_lt (part.front + m) part.room)
  where
    go : (part.front + k < part.room) ⊎ (part.room ≤ part.front + k) → (part.front + m < part.room) ⊎ (part.room ≤ part.front + m) → ⊥
    go (inl a) (inl b) = let f = wrapped_low part.room (part.front + k) a in let g = wrapped_low part.room (part.front + m) b in omega (arith, e, f, g, h)
    go (inl a) (inr b) = let f = wrapped_low part.room (part.front + k) a in let g = wrapped_high part.room (part.front + m) b in omega (arith, e, f, g, h, l, b)
    go (inr a) (inl b) = omega (arith, a, b, h)
    go (inr a) (inr b) = let f = wrapped_high part.room (part.front + k) a in let g = wrapped_high part.room (part.front + m) b in omega (arith, e, f, g, h, a, b)

-- ---- two lists made by functions with equal values

same_made : {X : Type 0} (f g : ℕ → X) (n : ℕ) (d : X) → ((k : ℕ) → k < n → f k ≡ g k) → map f (range_with_len 0 n) ≡ map g (range_with_len 0 n)
same_made f g n d same = fill_by_all g (map f (range_with_len 0 n)) n d (length-map-range_with_len f 0 n) (λ k l. get_or-map-range_with_len f 0 n k k d l (zero-add k) ∙ same k l)

-- ---- the notes that wait in a part

pub length-waiting : (notes : List ℕ) (part : Part) → length (waiting_in notes part) ≡ part.len
length-waiting notes part = length-map-range_with_len (λ k. get_or notes (place_in part k) 0) 0 part.len

-- the note at the front of a part that isn't empty is the first of its waiting notes
pub first_waiting : (notes : List ℕ) (part : Part) → part.len ≢ 0 → slice_get (waiting_in notes part) 0 ≡ Some (get_or notes (place_in part 0) 0)
first_waiting notes part some = go part.len some
  where
    go : (n : ℕ) → n ≢ 0 → slice_get (map (λ k. get_or notes (place_in part k) 0) (range_with_len 0 n)) 0 ≡ Some (get_or notes (place_in part 0) 0)
    go zero h = absurd (h refl)
    go (suc n) h = refl

-- a write outside a part leaves the notes of this part as they are
pub waiting_elsewhere : (notes : List ℕ) (part : Part) (at x : ℕ) → IsRing part → (at < part.start) ⊎ (part.start + part.room ≤ at) → waiting_in (slice_set notes at x) part ≡ waiting_in notes part
waiting_elsewhere notes part at x ring out =
    same_made (λ k. get_or (slice_set notes at x) (place_in part k) 0) (λ k. get_or notes (place_in part k) 0) part.len 0 (λ k l.
    let here = place_within part k ring (omega (arith, l, ring.len_within)) in
    get_or-set_other notes at (place_in part k) x 0 (λ e. ⊎_elim (λ (b : at < part.start). omega (arith, e, b, here.0)) (λ (b : part.start + part.room ≤ at). omega (arith, e, b, here.1)) out))

-- if a note is added at the end of a part with room, it is the last of the part's waiting notes
pub waiting_pushed : (notes : List ℕ) (part : Part) (x : ℕ) → IsRing part → part.len < part.room → part.start + part.room ≤ length notes →
    waiting_in (slice_set notes (place_in part part.len) x) (pushed part) ≡ waiting_in notes part ++ x ∷ []
waiting_pushed notes part x ring more within =
    let after : ℕ → ℕ = λ k. get_or (slice_set notes (place_in part part.len) x) (place_in part k) 0 in
    let before : ℕ → ℕ = λ k. get_or notes (place_in part k) 0 in
    let last = place_within part part.len ring more in
    map-range_with_len_more after 0 part.len part.len (zero-add part.len)
    ∙ ap (λ (y : ℕ). map after (range_with_len 0 part.len) ++ y ∷ []) (get_or-set_same notes (place_in part part.len) x 0 (omega (arith, last.1, within)))
    ∙ ap (λ (ys : List ℕ). ys ++ x ∷ []) (same_made after before part.len 0 (λ k l.
    get_or-set_other notes (place_in part part.len) (place_in part k) x 0 (λ e. places_apart part k part.len ring l more e)))

-- if the front note of a part is removed, the part's waiting notes are the others
pub waiting_popped : (notes : List ℕ) (part : Part) → IsRing part → waiting_in notes (popped part) ≡ drop 1 (waiting_in notes part)
waiting_popped notes part ring = ⊎_elim none some (cases_eq part.len 0)
  where
    none : part.len ≡ 0 → waiting_in notes (popped part) ≡ drop 1 (waiting_in notes part)
    none e =
        let same : popped part ≡ part = ap (λ (b : Bool). if b then part else record part { front = wrapped part.room (part.front + 1); len = part.len - 1 }) (eq-eqb part.len 0 e) in
        let nothing : waiting_in notes part ≡ [] = ap (λ (n : ℕ). map (λ k. get_or notes (place_in part k) 0) (range_with_len 0 n)) e in
        ap (λ (p : Part). waiting_in notes p) same ∙ nothing ∙ sym (ap (λ (xs : List ℕ). drop 1 xs) nothing)

    next : Part
    next = record part { front = wrapped part.room (part.front + 1); len = part.len - 1 }

    moved : (k : ℕ) → k + 1 < part.len → place_in next k ≡ place_in part (k + 1)
    moved k h = ⊎_elim (λ (a : part.front + 1 < part.room).
        let f = wrapped_low part.room (part.front + 1) a in
        ap (λ (n : ℕ). part.start + wrapped part.room n) (omega (arith, f)))
        (λ (a : part.room ≤ part.front + 1).
        let f = wrapped_high part.room (part.front + 1) a in
        let low = wrapped_low part.room (wrapped part.room (part.front + 1) + k) (omega (arith, f, h, ring.front_within, ring.len_within)) in
        let high = wrapped_high part.room (part.front + (k + 1)) (omega (arith, a)) in
        omega (arith, f, low, high, a))
        (cases_lt (part.front + 1) part.room)

    rest : (n : ℕ) → part.len ≡ suc n → map (λ k. get_or notes (place_in next k) 0) (range_with_len 0 n) ≡ drop 1 (map (λ k. get_or notes (place_in part k) 0) (range_with_len 0 (suc n)))
    rest n e = sym (fill_by_all (λ k. get_or notes (place_in next k) 0) (map (λ k. get_or notes (place_in part k) 0) (range_with_len (0 + 1) n)) n 0
        (length-map-range_with_len (λ k. get_or notes (place_in part k) 0) (0 + 1) n)
        (λ k l. get_or-map-range_with_len (λ m. get_or notes (place_in part m) 0) (0 + 1) n k (k + 1) 0 l (omega arith)
        ∙ ap (λ (m : ℕ). get_or notes m 0) (sym (moved k (omega (arith, e, l))))))

    split : (n m : ℕ) → part.len ≡ n → n ≢ 0 → m ≡ n - 1 → map (λ k. get_or notes (place_in next k) 0) (range_with_len 0 m) ≡ drop 1 (map (λ k. get_or notes (place_in part k) 0) (range_with_len 0 n))
    split zero m e h g = absurd (h refl)
    split (suc n) m e h g = ap (λ (t : ℕ). map (λ k. get_or notes (place_in next k) 0) (range_with_len 0 t)) (omega (arith, g)) ∙ rest n e

    some : part.len ≢ 0 → waiting_in notes (popped part) ≡ drop 1 (waiting_in notes part)
    some h =
        let same : popped part ≡ next = ap (λ (b : Bool). if b then part else next) (ne_eqb part.len 0 h) in
        ap (λ (p : Part). waiting_in notes p) same ∙ split part.len (part.len - 1) refl h refl

-- ---- a changed part is still a ring at the same entries of the row

pub ring_opened : (start room : ℕ) → IsRing (opened start room)
ring_opened start room = record { front_within = omega arith; len_within = omega arith }

pub ring_pushed : (part : Part) → IsRing part → part.len < part.room → IsRing (pushed part)
ring_pushed part ring more = record { front_within = ring.front_within; len_within = omega (arith, more) }

popped_parts : (part : Part) → (popped part ≡ part) ⊎ ((part.len ≢ 0) × (popped part ≡ record part { front = wrapped part.room (part.front + 1); len = part.len - 1 }))
popped_parts part = ⊎_elim
    (λ (e : part.len ≡ 0). inl (ap (λ (b : Bool). if b then part else record part { front = wrapped part.room (part.front + 1); len = part.len - 1 }) (eq-eqb part.len 0 e)))
    (λ (h : part.len ≢ 0). inr (h, ap (λ (b : Bool). if b then part else record part { front = wrapped part.room (part.front + 1); len = part.len - 1 }) (ne_eqb part.len 0 h)))
    (cases_eq part.len 0)

pub ring_popped : (part : Part) → IsRing part → IsRing (popped part)
ring_popped part ring = go (popped_parts part)
  where
    next_within : part.len ≢ 0 → wrapped part.room (part.front + 1) ≤ part.room
    next_within h = ⊎_elim (λ (a : part.front + 1 < part.room). let f = wrapped_low part.room (part.front + 1) a in omega (arith, f, a))
        (λ (a : part.room ≤ part.front + 1). let f = wrapped_high part.room (part.front + 1) a in omega (arith, f, ring.front_within, ring.len_within, h))
        (cases_lt (part.front + 1) part.room)

    go : (popped part ≡ part) ⊎ ((part.len ≢ 0) × (popped part ≡ record part { front = wrapped part.room (part.front + 1); len = part.len - 1 })) → IsRing (popped part)
    go (inl e) = subst IsRing (sym e) ring
    go (inr e) = subst IsRing (sym e.1) (record { front_within = next_within e.0; len_within = omega (arith, ring.len_within) })

pub span_popped : (part : Part) → span (popped part) ≡ span part
span_popped part = ⊎_elim (λ (e : popped part ≡ part). ap span e) (λ (e : (part.len ≢ 0) × (popped part ≡ record part { front = wrapped part.room (part.front + 1); len = part.len - 1 })). ap span e.1) (popped_parts part)

-- ---- the parts of all desks in one row

-- an entry of one part lies outside each other part
pub outside : (spans : List (ℕ × ℕ)) (total i k at : ℕ) → AreLaid spans total → i < length spans → k < length spans → k ≢ i →
    (get_or spans i (0, 0)).0 ≤ at → at < (get_or spans i (0, 0)).0 + (get_or spans i (0, 0)).1 →
    (at < (get_or spans k (0, 0)).0) ⊎ ((get_or spans k (0, 0)).0 + (get_or spans k (0, 0)).1 ≤ at)
outside spans total i k at laid hi hk ne from to =
    ⊎_elim (λ (l : i < k). inl (let a = laid.apart i k l hk in omega (arith, a, to)))
    (λ (l : k ≤ i). inr (let a = laid.apart k i (omega (arith, l, ne)) hi in omega (arith, a, from)))
    (cases_lt i k)

-- one more part is laid after all parts of the row
pub laid_more : (spans : List (ℕ × ℕ)) (total room : ℕ) → AreLaid spans total → AreLaid (spans ++ (total, room) ∷ []) (total + room)
laid_more spans total room laid = record {
  within = λ k h. ⊎_elim (λ (l : k < length spans). let a = laid.within k l in omega (arith, a, ap (λ (s : ℕ × ℕ). s.0 + s.1) (before k l)))
      (λ (l : length spans ≤ k). omega (arith, ap (λ (s : ℕ × ℕ). s.0 + s.1) (last k (omega (arith, h, l, length_push spans (total, room))))))
      (cases_lt k (length spans));
  apart = λ i k l h. ⊎_elim (λ (m : k < length spans).
      let a = laid.apart i k l m in omega (arith, a, ap (λ (s : ℕ × ℕ). s.0 + s.1) (before i (omega (arith, l, m))), ap (λ (s : ℕ × ℕ). s.0) (before k m)))
      (λ (m : length spans ≤ k).
      let same : k ≡ length spans = omega (arith, h, m, length_push spans (total, room)) in
      let a = laid.within i (omega (arith, l, same)) in omega (arith, a, ap (λ (s : ℕ × ℕ). s.0 + s.1) (before i (omega (arith, l, same))), ap (λ (s : ℕ × ℕ). s.0) (last k same)))
      (cases_lt k (length spans));
}
  where
    before : (k : ℕ) → k < length spans → get_or (spans ++ (total, room) ∷ []) k (0, 0) ≡ get_or spans k (0, 0)
    before k l = get_or_append_left spans ((total, room) ∷ []) (0, 0) k l

    last : (k : ℕ) → k ≡ length spans → get_or (spans ++ (total, room) ∷ []) k (0, 0) ≡ (total, room)
    last k e = get_or_at spans (total, room) [] (0, 0) k (sym e)

-- ---- what the seats show after one seat and the row of notes change

pub shown_set : {X Y : Type 0} (f g : X → Y) (xs : List X) (i : ℕ) (x d : X) (y : Y) → i < length xs → g x ≡ y → ((k : ℕ) → k < length xs → k ≢ i → g (get_or xs k d) ≡ f (get_or xs k d)) →
    map g (slice_set xs i x) ≡ slice_set (map f xs) i y
shown_set {X} {Y} f g xs i x d y h here other = same_lists (map g (slice_set xs i x)) (slice_set (map f xs) i y)
    (length-map (slice_set xs i x) g ∙ length-set xs i x ∙ sym (length-map xs f) ∙ sym (length-set (map f xs) i y)) each
  where
    fits : length (map g (slice_set xs i x)) ≡ length xs
    fits = length-map (slice_set xs i x) g ∙ length-set xs i x

    each : (k : ℕ) (dd : Y) → k < length (map g (slice_set xs i x)) → get_or (map g (slice_set xs i x)) k dd ≡ get_or (slice_set (map f xs) i y) k dd
    each k dd l =
        let within : k < length xs = omega (arith, l, fits) in
        let read : get_or (map g (slice_set xs i x)) k dd ≡ g (get_or (slice_set xs i x) k d) = get_or-map g (slice_set xs i x) k d dd (omega (arith, within, length-set xs i x)) in
        ⊎_elim (λ (q : k ≡ i).
        read ∙ ap (λ (m : ℕ). g (get_or (slice_set xs i x) m d)) q ∙ ap g (get_or-set_same xs i x d h) ∙ here
        ∙ sym (ap (λ (m : ℕ). get_or (slice_set (map f xs) i y) m dd) q ∙ get_or-set_same (map f xs) i y dd (omega (arith, h, length-map xs f))))
        (λ (q : k ≢ i).
        read ∙ ap g (get_or-set_other xs i k x d q) ∙ other k within q
        ∙ sym (get_or-set_other (map f xs) i k y dd q ∙ get_or-map f xs k d dd within))
        (cases_eq k i)
