use Rattle.std.proofs.Common.{◌≡◌, ℕ, length, ap, subst, arith, rules}
use Rattle.match_model.specs.Instance.{Instance}
use Rattle.match_pool.specs.Done.{Each}
use Rattle.match_pool.specs.Rooms.{answer_room_of, IsNew}
use Rattle.match_pool.proofs.Rows.{each_none, each_push}
use Rattle.match_pool.proofs.open.RunStart.programmes.Goals as goal

pub loop-p-init : goal.loop-p-init
loop-p-init g c = each_none c.in_ok-answer_puts.answer_puts.items _ (search rules)

pub loop-p-preserved : goal.loop-p-preserved
loop-p-preserved g c = rw c.in_ok-push.ensures.items (each_push c.loop-p.answer_puts.items c.loop-p.p _ _ c.loop-p.invariant c.in_ok-answer_put.ensures.new)

pub returns-clause-puts : goal.returns-clause-puts
returns-clause-puts g c =
    let named : c.args.self.now.inst.now ≡ g.J.ExchangeIdentity.inst = search rules in
    let all : c.loop-p.p ≡ length g.J.ExchangeIdentity.inst.quotas = omega (arith, c.loop-p.auto, c.loop-p-test.false, c.programmes-programme_count.ensures.count, ap (λ (i : Instance). length i.quotas) named) in
    subst (λ (n : ℕ). Each c.loop-p.answer_puts.items n (IsNew g.M.AnswerPut.PutEnd.puts g.M.Mailboxes.answer_room (answer_room_of g.J.ExchangeIdentity.inst g.J.ExchangeIdentity.cap))) all c.loop-p.invariant
