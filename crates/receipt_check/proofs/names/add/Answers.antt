use Rattle.std.proofs.Common.{inl, inr, subst, ◌≡◌, Some, slice_get}
use Rattle.receipt_check.proofs.Firsts.{not_there}
use Rattle.receipt_check.proofs.names.add.Goals as goal

pub returns : goal.returns
returns c = elim c.in_ok-number.ensures.joined [
  | inl same ↦ absurd (not_there c.args.seen_names.now c.in_ok-number.field-0 c.args.name.now c.requires.fresh
      (subst (λ texts. slice_get texts c.in_ok-number.field-0 ≡ Some c.args.name.now) same c.in_ok-number.ensures.number))
  | inr more ↦ more
]
