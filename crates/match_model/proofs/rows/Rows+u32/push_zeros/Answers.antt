use Rattle.std.proofs.Common.{◌∙◌, ℕ, List, length, drop, replicate, ap, arith}
use Rattle.std.proofs.lemmas.List.{length-append, drop-append-le}
use Rattle.match_model.specs.Rows.{parted, last_end}
use Rattle.match_model.proofs.Parted.{AreEnds-weaker, last_within, parted-append}
use Rattle.match_model.proofs.rows.Rows+u32.push_zeros.Goals as goal

pub invariant_of-self-2 : goal.invariant_of-self-2
invariant_of-self-2 c =
    let old : List ℕ = c.self.inside.items.items in
    let many = ap (length {A = ℕ}) c.in_ok-add_zeros.ensures.added ∙ length-append old (replicate c.args.zero_count 0) in
    AreEnds-weaker 0 c.self.inside.ends.items (length old) (length c.add_zeros.new.items.items) (omega arith) c.self.invariant

pub returns : goal.returns
returns c =
    let old : List ℕ = c.self.inside.items.items in
    let ends : List ℕ = c.self.inside.ends.items in
    let zeros : List ℕ = replicate c.args.zero_count 0 in
    let rows = ap (parted 0 ends) c.in_ok-add_zeros.ensures.added ∙ parted-append 0 ends old zeros c.self.invariant in
    let left = ap (drop (last_end 0 ends)) c.in_ok-add_zeros.ensures.added ∙ drop-append-le (last_end 0 ends) old zeros (last_within 0 ends (length old) c.self.invariant) in
    rw (← c.self.view_is) (λ i. record { rows = rows i; begun = left i })
