-- The answers due after one more offer, and the last hold in a list of answers.
use Rattle.std.proofs.Common.{◌≡◌, ℕ, ◌*◌, ◌≤◌, Bool, true, false, List, [], ◌∷◌, ◌++◌, length, Option, Some, None, refl, ap, sym, ◌∙◌, append_assoc, append-nil, arith, length-append, fold}
use Rattle.std.proofs.lemmas.List.Sums.{fold-append, fold_push}
use Rattle.exchange_core.specs.declared.event.AnswerKind.TheVariants.{Hold, Decline}
use Rattle.exchange_core.specs.Mail.{Answered}
use Rattle.exchange_core.specs.Calls.{beats_all, best_of, release_of, called_by, calls_after, calls, held_after, last_hold}
use Rattle.exchange_core.proofs.Rankings.{best_of_push_better, best_of_push_same}
use Rattle.match_model.proofs.Prefixes.{push_induction}

pub calls_after-append : (a earlier xs ys : List ℕ) → calls_after a earlier (xs ++ ys) ≡ calls_after a earlier xs ++ calls_after a (earlier ++ xs) ys
calls_after-append a earlier [] ys = rw append-nil refl
calls_after-append a earlier (x ∷ xs) ys =
    ap (λ t. called_by a earlier x ++ t) (calls_after-append a (earlier ++ x ∷ []) xs ys ∙ ap (λ t. calls_after a (earlier ++ x ∷ []) xs ++ calls_after a t ys) (append_assoc earlier (x ∷ []) xs))
    ∙ sym (append_assoc (called_by a earlier x) (calls_after a (earlier ++ x ∷ []) xs) (calls_after a (earlier ++ x ∷ xs) ys))

pub calls_nil : (a : List ℕ) → calls a [] ≡ []
unfolding calls
calls_nil a = refl

pub calls-append : (a xs ys : List ℕ) → calls a (xs ++ ys) ≡ calls a xs ++ calls_after a xs ys
unfolding calls
calls-append a xs ys = calls_after-append a [] xs ys

-- one offer more adds the answers to this offer at the end
pub calls_push : (a xs : List ℕ) (y : ℕ) → calls a (xs ++ y ∷ []) ≡ calls a xs ++ called_by a xs y
calls_push a xs y = calls-append a xs (y ∷ []) ∙ ap (λ t. calls a xs ++ t) (append-nil _)

pub length-release_of-le : (o : Option ℕ) → length (release_of o) ≤ 1
length-release_of-le None = omega arith
length-release_of-le (Some q) = omega arith

pub called_by_better : (a earlier : List ℕ) (p : ℕ) → beats_all a earlier p ≡ true → called_by a earlier p ≡ (p, Hold) ∷ release_of (best_of a earlier)
called_by_better a earlier p e = rw e refl

pub called_by_other : (a earlier : List ℕ) (p : ℕ) → beats_all a earlier p ≡ false → called_by a earlier p ≡ (p, Decline) ∷ []
called_by_other a earlier p e = rw e refl

pub length-called_by-le : (a earlier : List ℕ) (p : ℕ) → length (called_by a earlier p) ≤ 2
length-called_by-le a earlier p = step (beats_all a earlier p) refl
  where
    step : (b : Bool) → beats_all a earlier p ≡ b → length (called_by a earlier p) ≤ 2
    step true e = rw (called_by_better a earlier p e) (omega (arith, length-release_of-le (best_of a earlier)))
    step false e = rw (called_by_other a earlier p e) (omega arith)

pub length-calls-le : (a xs : List ℕ) → length (calls a xs) ≤ 2 * length xs
length-calls-le a = push_induction (λ xs. length (calls a xs) ≤ 2 * length xs) (rw calls_nil (omega arith)) step
  where
    step : (xs : List ℕ) (x : ℕ) → length (calls a xs) ≤ 2 * length xs → length (calls a (xs ++ x ∷ [])) ≤ 2 * length (xs ++ x ∷ [])
    step xs x h = rw calls_push (omega (arith, length-append (calls a xs) (called_by a xs x), length-append xs (x ∷ []), length-called_by-le a xs x))

-- ---- the last hold in a list of answers

pub last_hold-append : (xs ys : List Answered) → last_hold (xs ++ ys) ≡ fold held_after (last_hold xs) ys
last_hold-append xs ys = fold-append held_after None xs ys

pub last_hold_push : (xs : List Answered) (x : Answered) → last_hold (xs ++ x ∷ []) ≡ held_after (last_hold xs) x
last_hold_push xs x = fold_push held_after None xs x

pub fold_release : (held o : Option ℕ) → fold held_after held (release_of o) ≡ held
fold_release held None = refl
fold_release held (Some q) = refl

pub best_of_nothing : (a : List ℕ) → best_of a [] ≡ None
best_of_nothing [] = refl
best_of_nothing (z ∷ zs) = best_of_nothing zs

-- once all answers due are given, the best of the offers is held
pub last_hold-calls : (a xs : List ℕ) → last_hold (calls a xs) ≡ best_of a xs
last_hold-calls a = push_induction (λ xs. last_hold (calls a xs) ≡ best_of a xs) (rw calls_nil (sym (best_of_nothing a))) step
  where
    case : (xs : List ℕ) (x : ℕ) (b : Bool) → beats_all a xs x ≡ b → last_hold (calls a xs) ≡ best_of a xs → last_hold (calls a (xs ++ x ∷ [])) ≡ best_of a (xs ++ x ∷ [])
    case xs x true e h = rw (calls_push, called_by_better a xs x e) (last_hold-append (calls a xs) _ ∙ fold_release (Some x) (best_of a xs) ∙ sym (best_of_push_better a xs x e))
    case xs x false e h = rw (calls_push, called_by_other a xs x e) (last_hold-append (calls a xs) _ ∙ h ∙ sym (best_of_push_same a xs x e))

    step : (xs : List ℕ) (x : ℕ) → last_hold (calls a xs) ≡ best_of a xs → last_hold (calls a (xs ++ x ∷ [])) ≡ best_of a (xs ++ x ∷ [])
    step xs x h = case xs x (beats_all a xs x) refl h
