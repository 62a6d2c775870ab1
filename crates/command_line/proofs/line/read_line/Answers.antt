use Rattle.std.proofs.Common.{rules, inl, inr, ◌∙◌}
use Rattle.command_line.proofs.line.read_line.Goals as goal

pub returns-in-Ok-None-clause-refused : goal.returns-in-Ok-None-clause-refused
returns-in-Ok-None-clause-refused g c =
    inr (inl (λ order rows is. c.in-Ok-None.ensures.none (search rules) order rows (c.in-Ok.ensures.found ∙ is), c.nothing_named.ensures))
