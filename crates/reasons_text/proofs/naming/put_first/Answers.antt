use Rattle.std.proofs.Common.{ap, sym, ◌∙◌, Option, ℕ}
use Rattle.std.specs.Prelude.{is_some}
use Rattle.reasons_text.specs.Numbers.{number_in}
use Rattle.reasons_text.proofs.NumberFacts.{put_kept, put_new}
use Rattle.reasons_text.proofs.naming.put_first.Goals as goal

pub returns-then-is_some : goal.returns-then-is_some
returns-then-is_some c =
    put_kept (number_in c.args.numbers.now) c.args.name.now c.args.number (ap (λ (o : Option ℕ). is_some o) (sym c.number_at.ensures) ∙ sym c.is_some.ensures ∙ c.if-is_some.true)

pub returns : goal.returns
returns c =
    put_new (number_in c.args.numbers.now) c.args.name.now c.args.number (number_in c.insert.new.self)
    (ap (λ (o : Option ℕ). is_some o) (sym c.number_at.ensures) ∙ sym c.is_some.ensures ∙ c.if-is_some.false)
    (λ text. c.in_ok-insert.ensures.updates.0 (record c.args.name { now = text }))
