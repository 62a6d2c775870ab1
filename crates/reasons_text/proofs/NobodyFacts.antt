-- A number without a member has no name.
use Rattle.std.proofs.Common.{◌≡◌, ℕ, ◌≤◌, [], length}
use Rattle.std.proofs.lemmas.List.{get_or_past}
use Rattle.docket.specs.Contents.{Contents}
use Rattle.docket.specs.Texts.{programme_name, resident_name}

pub resident_nobody : (d : Contents) (r : ℕ) → length d.residents ≤ r → resident_name d r ≡ []
unfolding resident_name
resident_nobody d r h = get_or_past d.residents r [] h

pub programme_nobody : (d : Contents) (p : ℕ) → length d.programmes ≤ p → programme_name d p ≡ []
unfolding programme_name
programme_nobody d p h = get_or_past d.programmes p [] h
