-- A side's seats and its row of notes show a list of desks. These lemmas say what is shown after one seat is read or
-- changed.
use Rattle.std.proofs.Common.{◌≡◌, ◌≢◌, ℕ, ◌+◌, ◌<◌, ◌≤◌, not, ◌⊎◌, List, [], ◌∷◌, ◌++◌, Option, Some, None, ⊎_elim, length, map, get_or, slice_get, refl, sym, ap, ◌∙◌, subst, arith}
use Rattle.std.specs.Prelude.{slice_set, nat_lt}
use Rattle.std.specs.List.{All}
use Rattle.std.proofs.lemmas.Bool.{cases_lt, lt-ltb}
use Rattle.std.proofs.lemmas.List.{length-map, length_push, get_or-map, get_or_append_left, get_or_at, map-set}
use Rattle.std.proofs.lemmas.List.Elements.{All-set}
use Rattle.std.proofs.Math.Seq.{map-set_same}
use Rattle.exchange_core.specs.declared.part.Part.{Part}
use Rattle.exchange_core.specs.Refusal.{is_nil}
use Rattle.exchange_core.specs.Notes.{place_in, waiting_in, IsRing, span, AreLaid}
use Rattle.exchange_core.proofs.Notes.{place_within, waiting_elsewhere, outside, shown_set}

pub nonempty : {X : Type 0} (xs : List X) → nat_lt 0 (length xs) ≡ not (is_nil xs)
nonempty [] = refl
nonempty (x ∷ xs) = lt-ltb 0 (length (x ∷ xs)) (omega arith)

pub index_within : {X Y : Type 0} (f : X → Y) (seats : List X) (now : List Y) (i r : ℕ) → map f seats ≡ now → i ≡ r → r < length now → i < length seats
index_within f seats now i r e q h = omega (arith, h, q, ap (λ ys. length ys) e, length-map seats f)

-- if one row is replaced by what g makes of it, at the same place of two equal lists, the lists stay equal
pub updated : {Y : Type 0} (v now : List Y) (i r : ℕ) (g : Y → Y) (d : Y) → v ≡ now → i ≡ r → slice_set v i (g (get_or v i d)) ≡ slice_set now r (g (get_or now r d))
updated v now i r g d e f = λ k. slice_set (e k) (f k) (g (get_or (e k) (f k) d))

-- if one seat is changed and no note changes, only this seat's desk changes among the desks that the seats stand
-- for
pub changed : {X Y : Type 0} (f : X → Y) (seats : List X) (now : List Y) (i r : ℕ) (seat new : X) (g : Y → Y) (d : Y) → map f seats ≡ now → i ≡ r → r < length now → seat ≡ get_or seats i seat → f new ≡ g (f seat) →
    map f (slice_set seats i new) ≡ slice_set now r (g (get_or now r d))
changed f seats now i r seat new g d e q h is here =
    map-set f seats i new
    ∙ ap (λ y. slice_set (map f seats) i y) (here ∙ sym (ap g (get_or-map f seats i seat d (index_within f seats now i r e q h) ∙ ap f (sym is))))
    ∙ updated (map f seats) now i r g d e q

-- if all items have a property and one more item has it, all items of the longer list have it
pub all_more : {X : Type 0} (P : X → Type 0) (xs : List X) (x : X) → All P xs → P x → All P (xs ++ x ∷ [])
all_more P xs x all one = λ k d h.
    ⊎_elim (λ (l : k < length xs). subst P (sym (get_or_append_left xs (x ∷ []) d k l)) (all k d l))
    (λ (l : length xs ≤ k). subst P (sym (get_or_at xs x [] d k (omega (arith, h, l, length_push xs x)))) one)
    (cases_lt k (length xs))

-- the first item of a mapped list is the function of the first item
pub front_some : {X Y : Type 0} (f : X → Y) (xs : List X) (x : X) → slice_get xs 0 ≡ Some x → slice_get (map f xs) 0 ≡ Some (f x)
front_some f [] x e = cc
front_some {X} {Y} f (y ∷ ys) x e = ap mapped e
  where
    mapped : Option X → Option Y
    mapped None = None
    mapped (Some z) = Some (f z)

pub front_none : {X Y : Type 0} (f : X → Y) (xs : List X) → slice_get xs 0 ≡ None → slice_get (map f xs) 0 ≡ None
front_none f [] e = refl
front_none f (y ∷ ys) e = cc

-- in the list of desks that the seats stand for, the desk at a seat's place is the one that this
-- seat stands for
pub now_at : {X Y : Type 0} (f : X → Y) (seats : List X) (now : List Y) (i r : ℕ) (seat : X) (d : Y) → map f seats ≡ now → i ≡ r → r < length now → seat ≡ get_or seats i seat → get_or now r d ≡ f seat
now_at f seats now i r seat d e q h is =
    sym (λ k. get_or (e k) (q k) d) ∙ get_or-map f seats i seat d (index_within f seats now i r e q h) ∙ ap f (sym is)

module _ {X Y : Type 0} (part : X → Part) (shown : List ℕ → X → Y) where
  pub ring_at : (seats : List X) (i : ℕ) (seat : X) → i < length seats → seat ≡ get_or seats i seat → All (λ x. IsRing (part x)) seats → IsRing (part seat)
  ring_at seats i seat h is rings = subst (λ (s : X). IsRing (part s)) (sym is) (rings i seat h)

  span_at : (seats : List X) (i : ℕ) (seat : X) → i < length seats → seat ≡ get_or seats i seat → get_or (map (λ x. span (part x)) seats) i (0, 0) ≡ span (part seat)
  span_at seats i seat h is = get_or-map (λ x. span (part x)) seats i seat (0, 0) h ∙ ap (λ x. span (part x)) (sym is)

  pub part_within : (seats : List X) (total i : ℕ) (seat : X) → i < length seats → seat ≡ get_or seats i seat → AreLaid (map (λ x. span (part x)) seats) total → (part seat).start + (part seat).room ≤ total
  part_within seats total i seat h is laid =
      let w = laid.within i (omega (arith, h, length-map seats (λ x. span (part x)))) in
      omega (arith, w, ap (λ (s : ℕ × ℕ). s.0 + s.1) (span_at seats i seat h is))

  -- if one seat is changed and its part stays at the same entries, the parts are laid in the row as before
  pub laid_set : (seats : List X) (total i : ℕ) (seat new : X) → seat ≡ get_or seats i seat → span (part new) ≡ span (part seat) → AreLaid (map (λ x. span (part x)) seats) total → AreLaid (map (λ x. span (part x)) (slice_set seats i new)) total
  laid_set seats total i seat new is same laid =
      subst (λ (spans : List (ℕ × ℕ)). AreLaid spans total) (sym (map-set_same (λ x. span (part x)) seats i new seat (same ∙ ap (λ x. span (part x)) is))) laid

  pub rings_set : (seats : List X) (i : ℕ) (new : X) → IsRing (part new) → All (λ x. IsRing (part x)) seats → All (λ x. IsRing (part x)) (slice_set seats i new)
  rings_set seats i new ring rings = All-set (λ x. IsRing (part x)) seats i new ring rings

  -- if one seat is changed and a note is written behind the seat's waiting notes, only this seat's desk changes
  pub shown_pushed : ((s : X) (notes notes' : List ℕ) → waiting_in notes (part s) ≡ waiting_in notes' (part s) → shown notes s ≡ shown notes' s) →
      (seats : List X) (notes : List ℕ) (i note : ℕ) (seat new : X) (y : Y) → i < length seats → seat ≡ get_or seats i seat → AreLaid (map (λ x. span (part x)) seats) (length notes) → All (λ x. IsRing (part x)) seats →
      (part seat).len < (part seat).room → shown (slice_set notes (place_in (part seat) (part seat).len) note) new ≡ y →
      map (shown (slice_set notes (place_in (part seat) (part seat).len) note)) (slice_set seats i new) ≡ slice_set (map (shown notes) seats) i y
  shown_pushed same seats notes i note seat new y h is laid rings more here =
      shown_set (shown notes) (shown (slice_set notes at note)) seats i new seat y h here (λ k l ne. same (get_or seats k seat) (slice_set notes at note) notes
      (waiting_elsewhere notes (part (get_or seats k seat)) at note (rings k seat l) (apart k l ne)))
    where
      at : ℕ
      at = place_in (part seat) (part seat).len

      spans : List (ℕ × ℕ)
      spans = map (λ x. span (part x)) seats

      stands : (part seat).start ≤ at × (at < (part seat).start + (part seat).room)
      stands = place_within (part seat) (part seat).len (ring_at seats i seat h is rings) more

      read : (k : ℕ) → k < length seats → get_or spans k (0, 0) ≡ span (part (get_or seats k seat))
      read k l = get_or-map (λ x. span (part x)) seats k seat (0, 0) l

      apart : (k : ℕ) → k < length seats → k ≢ i → (at < (part (get_or seats k seat)).start) ⊎ ((part (get_or seats k seat)).start + (part (get_or seats k seat)).room ≤ at)
      apart k l ne =
          let mine = span_at seats i seat h is in
          subst (λ (s : ℕ × ℕ). (at < s.0) ⊎ (s.0 + s.1 ≤ at)) (read k l)
          (outside spans (length notes) i k at laid (omega (arith, h, length-map seats (λ x. span (part x)))) (omega (arith, l, length-map seats (λ x. span (part x)))) ne
          (omega (arith, stands.0, ap (λ (s : ℕ × ℕ). s.0) mine)) (omega (arith, stands.1, ap (λ (s : ℕ × ℕ). s.0 + s.1) mine)))
