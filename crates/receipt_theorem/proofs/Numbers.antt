-- Numbers and digests that are printed are read back.
use Rattle.std.proofs.Common.{◌≡◌, ℕ, ◌+◌, ◌*◌, ◌-◌, ◌/◌, ◌%◌, ◌<◌, ◌≤◌, ◌^◌, ◌&&◌, true, List, [], ◌∷◌, ◌++◌, length, Some, refl, sym, ap, ◌∙◌, arith, rules}
use Rattle.std.specs.Prelude.{decimal, fold, nat_le, bytes_eq}
use Rattle.std.specs.List.{list_all}
use Rattle.std.proofs.lemmas.Fmt.{decimal_by_steps, decimal_nonempty, length-decimal-le}
use Rattle.std.proofs.lemmas.List.Sums.{fold-append}
use Rattle.std.proofs.lemmas.List.Folds.{list_all-append}
use Rattle.std.proofs.lemmas.Slice.Eq.{bytes_eq-Decides}
use Rattle.docket_names.specs.Words.{digits_worth, is_digit, is_number, number_of}
use Rattle.receipt_check.specs.Faults.{if_written, plain_number}

-- the text has only digits, and is worth n
pub record AreOf (n : ℕ) (text : List ℕ) : Type 0 where
  worth : digits_worth text ≡ n
  digits : list_all is_digit text ≡ true

digit : (n : ℕ) → n < 10 → is_digit (48 + n) ≡ true
digit n l = let low : nat_le 48 (48 + n) ≡ true = search (rules, l) in let high : nat_le (48 + n) 57 ≡ true = search (rules, l) in rw (low, high) refl

one : (n : ℕ) → n < 10 → AreOf n ((48 + n) ∷ [])
one n l = record { worth = omega arith; digits = rw (digit n l) refl }

more : (n : ℕ) (digits : List ℕ) → 10 ≤ n → AreOf (n / 10) digits → AreOf n (digits ++ (48 + n % 10) ∷ [])
more n digits l h = record {
  worth = fold-append (λ worth c. worth * 10 + (c - 48)) 0 digits ((48 + n % 10) ∷ []) ∙ omega (arith, h.worth);
  digits = list_all-append is_digit digits ((48 + n % 10) ∷ []) ∙ rw (h.digits, digit (n % 10) (omega arith)) refl;
}

-- the decimal digits of a number below 1000000000 are a number that a receipt may have
pub written : (n : ℕ) → n < 1000000000 → is_number (decimal n) ≡ true
unfolding is_number
written n l =
    let h = decimal_by_steps AreOf one more n (omega (arith, l)) in
    let some : nat_le 1 (length (decimal n)) ≡ true = search (rules, decimal_nonempty n (omega (arith, l))) in
    let few : nat_le (length (decimal n)) 9 ≡ true = search (rules, length-decimal-le 9 n (omega arith) (omega (arith, l)) (omega (arith, l))) in
    rw (some, few, h.digits) refl

-- the decimal digits of a number below 1000000000 are read back as this number
pub read_back : (n : ℕ) → n < 1000000000 → plain_number (decimal n) ≡ Some n
unfolding plain_number number_of
read_back n l =
    let h = decimal_by_steps AreOf one more n (omega (arith, l)) in
    rw (written n l, h.worth, (bytes_eq-Decides (decimal n) (decimal n)).1 refl) refl
