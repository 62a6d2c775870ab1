use Rattle.std.proofs.Common.{sym, ◌∙◌}
use Rattle.std.proofs.lemmas.Str.{IsUtf8-past_char}
use Rattle.reasons_text.proofs.ShownFacts.{hidden_here, hidden_later, hidden_none}
use Rattle.reasons_text.proofs.real_names.has_hidden.Goals as goal

pub returns-then-is_hidden : goal.returns-then-is_hidden
returns-then-is_hidden c =
    let held = c.loop-c.invariant in
    sym (hidden_here _ _ c.in-Some.c held.0 c.in-Some.ensures.steps.0 (sym c.is_hidden.ensures ∙ c.if-is_hidden.true)) ∙ held.1

pub loop-c-preserved : goal.loop-c-preserved
loop-c-preserved c =
    let held = c.loop-c.invariant in
    let parts = c.in-Some.ensures.steps.0 in
    (IsUtf8-past_char _ _ c.in-Some.c held.0 parts, sym (hidden_later _ _ c.in-Some.c held.0 parts (sym c.is_hidden.ensures ∙ c.if-is_hidden.false)) ∙ held.1)

pub returns : goal.returns
returns c = sym (hidden_none _ c.in-None.ensures.steps.0.0) ∙ c.loop-c.invariant.1
