-- The rows with the numbers of workers' events, written one after another.
use Rattle.std.proofs.Common.{◌≡◌, ℕ, zero, suc, Option, ◌+◌, ◌<◌, List, [], ◌∷◌, ◌++◌, length, take, get_or, sym, ap, ◌∙◌, arith, append_assoc, append-nil}
use Rattle.records.specs.RowText.{Adds}
use Rattle.records.specs.declared.writer.RowWriter.{RowWriter}
use Rattle.records.proofs.RowTextFacts.{adds_none, adds_both}
use Rattle.audit_text.specs.Answer.{worker_row, worker_rows}

-- the rows of the first k + 1 workers are the rows of the first k workers, followed by worker k's
-- row
worker_rows-more : (first : ℕ) (counts : List ℕ) (k : ℕ) → k < length counts
    → worker_rows first (take (k + 1) counts) ≡ worker_rows first (take k counts) ++ worker_row (first + k) (get_or counts k 0)
unfolding worker_rows
worker_rows-more first [] k lt = absurd (omega arith)
worker_rows-more first (events ∷ counts) zero lt =
    let none : first + 0 ≡ first = omega arith in
    rw none (append-nil (worker_row first events))
worker_rows-more first (events ∷ counts) (suc k) lt =
    let longer : suc k + 1 ≡ suc (k + 1) = omega arith in
    let last : first + suc k ≡ first + 1 + k = omega arith in
    rw (longer, last) (ap (λ rest. worker_row first events ++ rest) (worker_rows-more (first + 1) counts k (omega arith))
    ∙ sym (append_assoc (worker_row first events) (worker_rows (first + 1) (take k counts)) (worker_row (first + 1 + k) (get_or counts k 0))))

pub workers_none : {W : Type 0} (contents : W → Option (List ℕ)) (a : RowWriter W) → Adds contents a a (worker_rows 0 [])
unfolding worker_rows
workers_none contents a = adds_none contents a

pub workers_next : {W : Type 0} (contents : W → Option (List ℕ)) (counts : List ℕ) (a b c : RowWriter W) (k : ℕ) → k < length counts
    → Adds contents a b (worker_rows 0 (take k counts)) → Adds contents b c (worker_row k (get_or counts k 0))
    → Adds contents a c (worker_rows 0 (take (k + 1) counts))
workers_next contents counts a b c k lt h n =
    let here : 0 + k ≡ k = omega arith in
    let more : worker_rows 0 (take (k + 1) counts) ≡ worker_rows 0 (take k counts) ++ worker_row k (get_or counts k 0) =
    worker_rows-more 0 counts k lt ∙ ap (λ w. worker_rows 0 (take k counts) ++ worker_row w (get_or counts k 0)) here in
    rw more (adds_both contents a b c _ _ h n)
