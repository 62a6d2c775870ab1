use Rattle.std.proofs.Common.{◌≡◌, ℕ, true, None, ltb, length, arith, subst}
use Rattle.std.specs.List.{list_all}
use Rattle.std.proofs.lemmas.Grind.{common_steps}
use Rattle.match_model.specs.Draft.{items_fault}
use Rattle.match_model.proofs.Drafts.{IsDraft-with_programme_list, no_items_fault}
use Rattle.match_model.proofs.builder.InstanceBuilder.programme_list.Goals as goal

pub invariant_of-self-2 : goal.invariant_of-self-2
invariant_of-self-2 c =
    let fault : items_fault c.len-resident_count.result c.args.residents.now ≡ None = c.in_ok-give_residents.ensures.first_fault in
    let fine = no_items_fault c.len-resident_count.result c.args.residents.now fault in
    rw c.in_ok-give_residents.ensures.given (IsDraft-with_programme_list _ c.programme.inside.0 c.args.residents.now c.self.invariant
    (subst (λ (n : ℕ). list_all (λ x. ltb x n) c.args.residents.now ≡ true) c.len-resident_count.ensures fine.0) fine.1)

pub returns-in_err-give_residents-clause-first_fault : goal.returns-in_err-give_residents-clause-first_fault
returns-in_err-give_residents-clause-first_fault c =
    let n_is : c.len-resident_count.result ≡ length c.args.self.now.resident_lists = rw (← c.self.view_is) c.len-resident_count.ensures in
    grind (arith, common_steps, n_is)
