-- What was published of a tree, as a text writes it.
use Rattle.std.specs.Prelude.{ℕ, ◌+◌, Option, Some, None, List, drop, nat_eq, position, take}
use Rattle.receipt_check.specs.Faults.{digest_of, plain_number}
use Rattle.receipt_check.specs.declared.published.Published.{Published}

-- the number of members and the root
abbrev pub row_of : Published → ℕ × List ℕ
row_of p = (p.members, p.root)

abbrev pub both : Option ℕ → Option (List ℕ) → Option (ℕ × List ℕ)
both None root = None
both (Some members) None = None
both (Some members) (Some root) = Some (members, root)

abbrev pub split_at : List ℕ → Option ℕ → Option (ℕ × List ℕ)
split_at text None = None
split_at text (Some comma) = both (plain_number (take comma text)) (digest_of (drop (comma + 1) text))

-- the number before the first comma, and the root whose digits come after it; none if one of them
-- isn't written so
unfoldable pub published_in : List ℕ → Option (ℕ × List ℕ)
published_in text = split_at text (position (nat_eq 44) text)
