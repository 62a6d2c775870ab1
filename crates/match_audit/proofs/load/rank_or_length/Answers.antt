use Rattle.std.proofs.Common.{ap, ◌∙◌, sym, length, List, ℕ}
use Rattle.match_audit.proofs.Ranks.{place_unranked}
use Rattle.match_audit.proofs.load.rank_or_length.Goals as goal

pub returns-in-None : goal.returns-in-None
returns-in-None c =
    ap (λ (xs : List ℕ). length xs) c.list_of_programme.ensures.list ∙ sym (place_unranked _ c.args.resident (sym c.in-None.is ∙ c.rank_at_programme.ensures))
