use Rattle.std.proofs.Common.{◌≡◌, ◌∙◌, ◌+◌, List, [], ◌∷◌, length, drop, ap, arith}
use Rattle.std.proofs.lemmas.List.{length_push, drop-append-le}
use Rattle.match_model.specs.Rows.{parted, last_end}
use Rattle.match_model.proofs.Parted.{AreEnds-weaker, last_within, parted-append}
use Rattle.match_model.proofs.rows.Rows.push.Goals as goal

pub invariant_of-self-2 : goal.invariant_of-self-2
invariant_of-self-2 g c =
    let old = c.self.inside.items.items in
    let many : length c.push.new.self.items ≡ length old + 1 = ap (λ (xs : List _). length xs) c.in_ok-push.ensures.items ∙ length_push old c.args.item in
    AreEnds-weaker 0 c.self.inside.ends.items (length old) (length c.push.new.self.items) (omega arith) c.self.invariant

pub returns : goal.returns
returns g c =
    let old = c.self.inside.items.items in
    let ends = c.self.inside.ends.items in
    let rows = ap (parted 0 ends) c.in_ok-push.ensures.items ∙ parted-append 0 ends old (c.args.item ∷ []) c.self.invariant in
    let left = ap (drop (last_end 0 ends)) c.in_ok-push.ensures.items ∙ drop-append-le (last_end 0 ends) old (c.args.item ∷ []) (last_within 0 ends (length old) c.self.invariant) in
    rw (← c.self.view_is) (λ i. record { rows = rows i; begun = left i })
