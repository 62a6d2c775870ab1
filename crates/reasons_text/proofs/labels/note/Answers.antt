use Rattle.std.proofs.Common.{◌∙◌, ap, ℕ, List, Option, bytes_eq}
use Rattle.std.specs.HashMap.{get_by}
use Rattle.reasons_text.specs.Numbers.{owner_with}
use Rattle.reasons_text.specs.declared.names.Meant.{Meant}
use Rattle.reasons_text.proofs.LabelFacts.{noted_one}
use Rattle.reasons_text.proofs.labels.note.Goals as goal

pub returns : goal.returns
returns c other =
    let old : List ℕ → Option Meant = λ t. get_by (λ own. bytes_eq t own.now) c.args.owners.now in
    let new : List ℕ → Option Meant = λ t. get_by (λ own. bytes_eq t own.now) c.insert.new.self in
    noted_one old new c.args.text.now c.args.number c.owner_with.result
    (c.owner_with.ensures ∙ ap (λ (o : Meant). owner_with o c.args.number) c.owner-known_owner.ensures)
    (λ t. c.in_ok-insert.ensures.updates.0 (record c.args.text { now = t })) other
