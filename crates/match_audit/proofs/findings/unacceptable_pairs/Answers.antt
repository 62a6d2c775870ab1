use Rattle.std.proofs.Common.{◌≡◌, arith, ◌∙◌, sym, ap, subst, Some, ℕ, List}
use Rattle.std.specs.Prelude.{Option}
use Rattle.std.proofs.lemmas.Option.{same_Some}
use Rattle.match_model.specs.Placement.{programme_of}
use Rattle.std.specs.Global.{Vec}
use Rattle.match_model.specs.Instance.{Acceptable}
use Rattle.match_audit.specs.Report.{IsUnacceptable}
use Rattle.match_audit.proofs.Listings.{Lists_all, Lists_more_none, Lists_more_one}
use Rattle.settle_law.proofs.Placements.{member_within}
use Rattle.match_audit.proofs.findings.unacceptable_pairs.Goals.{then-not-is_acceptable+in_ok-push, else-not-is_acceptable}
use Rattle.match_audit.proofs.findings.unacceptable_pairs.Goals as goal

pub loop-r-preserved-in_default : goal.loop-r-preserved-in_default
loop-r-preserved-in_default c =
    Lists_more_none (IsUnacceptable c.args.inst.now c.args.assignment.now) c.loop-r.r c.loop-r.pairs.items c.loop-r.invariant
    (λ p u. let got = sym c.in_default.is ∙ c.get.ensures ∙ u.0 in cc)

pub loop-r-preserved : goal.loop-r-preserved
loop-r-preserved c =
    let m : List (Option ℕ) = c.args.assignment.now in
    let here : programme_of m c.loop-r.r ≡ Some c.in-Some.programme = sym c.get.ensures ∙ c.in-Some.is in
    let only : (p : ℕ) → IsUnacceptable c.args.inst.now m c.loop-r.r p → p ≡ c.in-Some.programme = λ p u. same_Some p c.in-Some.programme (sym u.0 ∙ here) in
    elim c.if-not-is_acceptable.branch [
      | then-not-is_acceptable+in_ok-push w ↦
          rw (ap (λ (v : Vec (ℕ × ℕ)). v.items) w.pairs-is ∙ w.in_ok-push.ensures.items)
          (Lists_more_one (IsUnacceptable c.args.inst.now m) c.loop-r.r c.in-Some.programme c.loop-r.pairs.items c.loop-r.invariant
          (here, λ a. let t = c.is_acceptable.ensures.1 a in let f = w.if-not-is_acceptable.true in cc) only)
      | else-not-is_acceptable w ↦
          rw (ap (λ (v : Vec (ℕ × ℕ)). v.items) w.pairs-is)
          (Lists_more_none (IsUnacceptable c.args.inst.now m) c.loop-r.r c.loop-r.pairs.items c.loop-r.invariant
          (λ p u. u.1 (subst (λ z. Acceptable c.args.inst.now c.loop-r.r z) (sym (only p u)) (c.is_acceptable.ensures.0 w.if-not-is_acceptable.false))))
    ]

pub returns : goal.returns
returns c = Lists_all (IsUnacceptable c.args.inst.now c.args.assignment.now) c.loop-r.r c.loop-r.pairs.items c.loop-r.invariant
    (λ r p u. let w = member_within c.args.assignment.now r p u.0 in omega arith)
