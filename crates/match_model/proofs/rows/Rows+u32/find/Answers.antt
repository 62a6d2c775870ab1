use Rattle.std.proofs.Common.{◌≡◌, ℕ, List, false, subst, sym}
use Rattle.std.specs.List.Sorted.{IsBinarySearchResult, IsNonDecreasing}
use Rattle.std.specs.Ordering.{nat_cmp}
use Rattle.match_model.specs.Ranking.{is_listed}
use Rattle.match_model.proofs.Guessed.{missed}
use Rattle.match_model.proofs.rows.Rows+u32.find.Goals as goal

pub returns-in-Err : goal.returns-in-Err
returns-in-Err c = λ up none.
    let x : ℕ = c.args.number in
    let found = subst (IsBinarySearchResult (λ y. nat_cmp y x) c.row.result.now) c.in-Err.is c.binary_search.ensures.position in
    subst (λ (row : List ℕ). is_listed row x ≡ false) c.row.ensures (missed c.row.result.now x c.in-Err.field-0 found (subst IsNonDecreasing (sym c.row.ensures) up))
