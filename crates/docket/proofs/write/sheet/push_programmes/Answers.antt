use Rattle.std.proofs.Common.{◌≡◌, ◌<◌, length, ap, arith}
use Rattle.docket.specs.Texts.{filled_row}
use Rattle.docket.proofs.WriteFacts.{rows_next}
use Rattle.docket.proofs.write.sheet.push_programmes.Goals as goal

pub loop-p-preserved : goal.loop-p-preserved
loop-p-preserved g c =
    let below : c.loop-p.p < length c.args.docket.now.programmes =
    omega (arith, c.programmes-p-end.ensures.count, c.instance.ensures.whole.programmes, ap (λ i. length i.quotas) c.instance.ensures.instance) in
    λ m h. rows_next g.W.Write.contents (filled_row c.args.docket.now m) c.args.rows.now c.loop-p.rows c.push_programme.new.rows c.loop-p.p (c.loop-p.invariant m h) (rw (h c.loop-p.p below) at c.in_ok-push_programme.ensures)

pub returns : goal.returns
returns g c =
    let all : c.loop-p.p ≡ length c.args.docket.now.programmes =
    omega (arith, c.loop-p-test.false, c.loop-p.auto.p-end, c.programmes-p-end.ensures.count, c.instance.ensures.whole.programmes, ap (λ i. length i.quotas) c.instance.ensures.instance) in
    λ m h. rw all at (c.loop-p.invariant m h)
