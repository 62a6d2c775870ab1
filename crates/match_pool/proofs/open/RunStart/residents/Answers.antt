use Rattle.std.proofs.Common.{◌≡◌, ℕ, length, ap, subst, arith, rules}
use Rattle.match_model.specs.Instance.{Instance}
use Rattle.match_pool.specs.Done.{Each}
use Rattle.match_pool.specs.Rooms.{offer_room_of, IsNew}
use Rattle.match_pool.proofs.Rows.{each_none, each_push}
use Rattle.match_pool.proofs.open.RunStart.residents.Goals as goal

pub loop-r-init : goal.loop-r-init
loop-r-init g c = each_none c.in_ok-offer_puts.offer_puts.items _ (search rules)

pub loop-r-preserved : goal.loop-r-preserved
loop-r-preserved g c = rw c.in_ok-push.ensures.items (each_push c.loop-r.offer_puts.items c.loop-r.r _ _ c.loop-r.invariant c.in_ok-offer_put.ensures.new)

pub returns-clause-puts : goal.returns-clause-puts
returns-clause-puts g c =
    let named : c.args.self.now.inst.now ≡ g.J.ExchangeIdentity.inst = search rules in
    let all : c.loop-r.r ≡ length g.J.ExchangeIdentity.inst.resident_lists = omega (arith, c.loop-r.auto, c.loop-r-test.false, c.residents-resident_count.ensures.count, ap (λ (i : Instance). length i.resident_lists) named) in
    subst (λ (n : ℕ). Each c.loop-r.offer_puts.items n (IsNew g.M.OfferPut.PutEnd.puts g.M.Mailboxes.offer_room (offer_room_of g.J.ExchangeIdentity.inst g.J.ExchangeIdentity.cap))) all c.loop-r.invariant
