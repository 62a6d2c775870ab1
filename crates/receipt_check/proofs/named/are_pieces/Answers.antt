use Rattle.std.proofs.Common.{rules, tests, List, ℕ, sym, ◌∙◌}
use denote.Ref.{Bor}
use Rattle.std.proofs.lemmas.Iterator.{YieldsList-from_slice}
use Rattle.std.proofs.lemmas.Iterator.Search.{all_from_yields_List}
use Rattle.std.proofs.lemmas.List.Folds.{list_all-map}
use Rattle.receipt_check.specs.Named.{is_piece}
use Rattle.receipt_check.proofs.named.are_pieces.Goals as goal

pub returns : goal.returns
returns c =
    all_from_yields_List (λ (piece : Bor (List ℕ)). is_piece piece.now) _ _ _ c.all.ensures.ran (YieldsList-from_slice c.args.pieces.now cc) (λ x b q k. search (rules, tests))
    ∙ sym (list_all-map is_piece (λ (piece : Bor (List ℕ)). piece.now) c.args.pieces.now)
