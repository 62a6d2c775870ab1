use Rattle.std.proofs.Common.{◌+◌, ◌-◌, Some, None, arith, ap, sym, ◌∙◌, refl}
use Rattle.std.proofs.lemmas.List.{append-nil}
use Rattle.seal.proofs.Openings.{read_on, read_level, sibling_left, sibling_right, no_sibling}
use Rattle.seal.proofs.tree.Tree.opening.Goals as goal
use Rattle.seal.proofs.tree.Tree.opening.Goals.{then-place-eq1+in_ok-push, else-place-eq1+then-place-node_count+in_ok-push-2, else-place-eq1+else-place-node_count}

pub loop-node_count-preserved : goal.loop-node_count-preserved
loop-node_count-preserved c =
    let l = c.loop-node_count in
    let nodes = c.self.inside.nodes.items in
    elim c.if-place-eq1.branch [
      | then-place-eq1+in_ok-push w ↦
          let sibling = read_level nodes l.level_start l.node_count _ (l.place - 1) w.index.result.now l.invariant.in_nodes (omega (arith, l.invariant.in_level)) (omega (arith, w.if-place-eq1.true)) w.index.ensures in
          read_on nodes l.path.items _ _ l.level_start l.node_count l.place _ (Some w.index.result.now) l.invariant c.loop-node_count-test.true refl
          (sibling_left l.place _ _ w.if-place-eq1.true sibling) (ap (λ p. p.items) w.path-is ∙ w.in_ok-push.ensures.items)
      | else-place-eq1+then-place-node_count+in_ok-push-2 w ↦
          let sibling = read_level nodes l.level_start l.node_count _ (l.place + 1) w.index-then-place-node_count.result.now l.invariant.in_nodes w.if-place-node_count.true (omega arith) w.index-then-place-node_count.ensures in
          read_on nodes l.path.items _ _ l.level_start l.node_count l.place _ (Some w.index-then-place-node_count.result.now) l.invariant c.loop-node_count-test.true refl
          (sibling_right l.place _ _ w.if-place-eq1.false sibling) (ap (λ p. p.items) w.path-is ∙ w.in_ok-push-2.ensures.items)
      | else-place-eq1+else-place-node_count w ↦
          read_on nodes l.path.items _ _ l.level_start l.node_count l.place _ None l.invariant c.loop-node_count-test.true refl
          (no_sibling nodes l.level_start l.node_count l.place l.invariant.in_nodes w.if-place-eq1.false w.if-place-node_count.false) (ap (λ p. p.items) w.path-is ∙ sym (append-nil l.path.items))
    ]
