use Rattle.std.proofs.Common.{◌≡◌, ℕ, true, None, ltb, length, arith, subst}
use Rattle.std.specs.List.{list_all}
use Rattle.match_model.specs.Draft.{items_fault}
use Rattle.match_model.proofs.Drafts.{IsDraft-with_resident_list, no_items_fault}
use Rattle.match_model.proofs.builder.InstanceBuilder.resident_list.Goals as goal

pub invariant_of-self-2 : goal.invariant_of-self-2
invariant_of-self-2 c =
    let n_is : c.len-programme_count.result ≡ length c.self.inside.quotas.items = omega arith in
    let fault : items_fault c.len-programme_count.result c.args.programmes.now ≡ None = c.in_ok-give_programmes.ensures.first_fault in
    let fine = no_items_fault c.len-programme_count.result c.args.programmes.now fault in
    rw c.in_ok-give_programmes.ensures.given (IsDraft-with_resident_list _ c.resident.inside.0 c.args.programmes.now c.self.invariant
    (subst (λ (n : ℕ). list_all (λ x. ltb x n) c.args.programmes.now ≡ true) n_is fine.0) fine.1)
