use Rattle.std.proofs.Common.{◌≡◌, ◌+◌, ◌<◌, ◌*◌, [], ◌∷◌, length, arith, ap, length-append}
use Rattle.seal.proofs.Pushes.{parent_pushed, last_pushed}
use Rattle.seal.proofs.tree.push_parents.Goals as goal

pub loop-k-preserved : goal.loop-k-preserved
loop-k-preserved c =
    let l = c.loop-k in
    let within : c.args.level_start + 2 * l.k + 1 < length c.args.nodes.now.items = omega (arith, c.len.ensures) in (
      l.invariant.0,
      omega (arith, ap length c.in_ok-push.ensures.items, length-append l.nodes.items (c.node_of-parent.result ∷ []), l.invariant.1),
      parent_pushed c.args.nodes.now.items l.nodes.items _ c.index.result.now c.index-in-loop-k.result.now _ c.args.level_start l.k
          l.invariant.1 within l.invariant.2 c.index.ensures c.index-in-loop-k.ensures c.node_of-parent.ensures c.in_ok-push.ensures.items,
    )

pub returns-in_ok-push-2 : goal.returns-in_ok-push-2
returns-in_ok-push-2 c =
    let l = c.loop-k in
    let end : c.args.level_start + 2 * l.k + 1 ≡ length c.args.nodes.now.items = omega (arith, c.len.ensures, l.auto.k-end) in
    last_pushed c.args.nodes.now.items l.nodes.items _ c.index-last_node.result.now c.args.level_start l.k _
    l.invariant.1 end l.invariant.2 (omega (arith, l.invariant.0)) c.index-last_node.ensures c.in_ok-push-2.ensures.items
