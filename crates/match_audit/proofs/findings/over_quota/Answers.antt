use Rattle.std.proofs.Common.{◌≡◌, ◌<◌, length, arith, ◌∙◌, sym, ap, Some, ℕ, slice_get, get_or}
use Rattle.std.specs.Global.{Vec}
use Rattle.std.proofs.lemmas.Option.{slice_get-get_or}
use Rattle.match_audit.specs.declared.load.Load.{Load}
use Rattle.match_model.specs.Placement.{member_count}
use Rattle.match_audit.specs.Report.{IsOver}
use Rattle.match_audit.proofs.Listings.{Lists_all, Lists_more_none, Lists_more_one}
use Rattle.match_audit.proofs.findings.over_quota.Goals.{then-members-quota+in_ok-push, else-members-quota}
use Rattle.match_audit.proofs.findings.over_quota.Goals as goal

pub loop-p-preserved : goal.loop-p-preserved
loop-p-preserved c = λ m h.
    let p : ℕ = c.loop-p.p in
    let load : Load = get_or c.args.loads.now p (record { members = 0; worst_rank = 0 }) in
    let member : p < length c.args.inst.now.quotas = (let e = c.programmes-p-end.ensures.count in let l = c.loop-p-test.true in omega arith) in
    let at : slice_get c.args.loads.now p ≡ Some load = slice_get-get_or c.args.loads.now p (record { members = 0; worst_rank = 0 }) (let e = h.one_each in omega arith) in
    let count : load.members ≡ member_count m p = (h.each p load at).members in
    elim c.if-members-quota.branch [
      | then-members-quota+in_ok-push w ↦
          rw (ap (λ (v : Vec (ℕ × ℕ)). v.items) w.programmes_over-is ∙ w.in_ok-push.ensures.items)
          (Lists_more_one (IsOver c.args.inst.now m) p load.members c.loop-p.programmes_over.items (c.loop-p.invariant m h)
          (member, sym count, let l = w.if-members-quota.true in let q = c.quota.ensures in omega arith) (λ n u. sym u.1 ∙ sym count))
      | else-members-quota w ↦
          rw (ap (λ (v : Vec (ℕ × ℕ)). v.items) w.programmes_over-is)
          (Lists_more_none (IsOver c.args.inst.now m) p c.loop-p.programmes_over.items (c.loop-p.invariant m h)
          (λ n u. let a = u.1 in let b = u.2 in let l = w.if-members-quota.false in let q = c.quota.ensures in omega arith))
    ]

pub returns : goal.returns
returns c = λ m h. Lists_all (IsOver c.args.inst.now m) c.loop-p.p c.loop-p.programmes_over.items (c.loop-p.invariant m h) (λ p n u. let l = u.0 in let e = c.programmes-p-end.ensures.count in omega arith)
