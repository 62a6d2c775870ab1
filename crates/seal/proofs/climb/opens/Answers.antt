use Rattle.std.proofs.Common.{subst, Decides, ◌≡◌, ◌+◌, ◌/◌, ◌%◌, ◌<◌, length, arith, refl, sym, ◌∙◌}
use Rattle.std.proofs.lemmas.Bool.{ne_eqb}
use Rattle.std.proofs.lemmas.Bool.Decides.{Decides-eqb}
use Rattle.std.proofs.lemmas.Slice.Eq.{slice_eq-Decides}
use Rattle.seal.specs.Tree.{Left, Right}
use Rattle.seal.proofs.Steps.{is_left, is_right, is_nowhere, takes_left, takes_right, takes_none, falls_short, ends, left_over, climb_is, fails, decides}
use Rattle.seal.proofs.climb.opens.Goals as goal
use Rattle.seal.proofs.climb.opens.Goals.{then-place-eq1+else-used_hashes-path, else-place-eq1+then-place-nodes+else-used_hashes-path-2, else-place-eq1+else-place-nodes}

pub returns-then-used_hashes-path : goal.returns-then-used_hashes-path
returns-then-used_hashes-path c =
    let l = c.loop-nodes in
    let none = falls_short l.place l.nodes l.used_hashes Left l.hash c.args.path.now l.invariant.0 c.loop-nodes-test.true (is_left l.place l.nodes c.if-place-eq1.true) c.if-used_hashes-path.true in
    fails _ _ _ _ refl (climb_is _ _ _ _ c.if-leaf_index-leaf_count.false ∙ sym l.invariant.2 ∙ none)

pub returns-then-used_hashes-path-2 : goal.returns-then-used_hashes-path-2
returns-then-used_hashes-path-2 c =
    let l = c.loop-nodes in
    let none = falls_short l.place l.nodes l.used_hashes Right l.hash c.args.path.now l.invariant.0 c.loop-nodes-test.true (is_right l.place l.nodes c.if-place-eq1.false c.if-place-nodes.true) c.if-used_hashes-path-2.true in
    fails _ _ _ _ refl (climb_is _ _ _ _ c.if-leaf_index-leaf_count.false ∙ sym l.invariant.2 ∙ none)

pub loop-nodes-preserved : goal.loop-nodes-preserved
loop-nodes-preserved c =
    let l = c.loop-nodes in
    let place = l.place in
    let nodes = l.nodes in
    let within : place / 2 < nodes / 2 + nodes % 2 = omega (arith, l.invariant.0) in
    elim c.if-place-eq1.branch [
      | then-place-eq1+else-used_hashes-path w ↦ (
        within,
        omega (arith, w.used_hashes-is, w.if-used_hashes-path.false),
        rw (w.used_hashes-is, w.hash-is, w.node_of-hash.ensures)
            (takes_left place nodes _ l.used_hashes l.hash c.args.path.now l.invariant.0 c.loop-nodes-test.true refl (is_left place nodes w.if-place-eq1.true) w.if-used_hashes-path.false ∙ l.invariant.2),
      )
      | else-place-eq1+then-place-nodes+else-used_hashes-path-2 w ↦ (
        within,
        omega (arith, w.used_hashes-is, w.if-used_hashes-path-2.false),
        rw (w.used_hashes-is, w.hash-is, w.node_of-hash-then-place-nodes.ensures)
            (takes_right place nodes _ l.used_hashes l.hash c.args.path.now l.invariant.0 c.loop-nodes-test.true refl (is_right place nodes w.if-place-eq1.false w.if-place-nodes.true) w.if-used_hashes-path-2.false ∙ l.invariant.2),
      )
      | else-place-eq1+else-place-nodes w ↦ (
        within,
        omega (arith, w.used_hashes-is, l.invariant.1),
        rw (w.used_hashes-is, w.hash-is)
            (takes_none place nodes _ l.used_hashes l.hash c.args.path.now l.invariant.0 c.loop-nodes-test.true refl (is_nowhere place nodes w.if-place-eq1.false w.if-place-nodes.false) ∙ l.invariant.2),
      )
    ]

pub returns-then-used_hashes-path-3 : goal.returns-then-used_hashes-path-3
returns-then-used_hashes-path-3 c =
    let l = c.loop-nodes in
    decides _ _ _ l.hash c.args.root.now (subst (λ z. Decides c.eq.result (z ≡ c.args.root.now)) c.published.ensures (slice_eq-Decides Decides-eqb c.published.result c.args.root.now c.eq.result c.eq.ensures))
    (climb_is _ _ _ _ c.if-leaf_index-leaf_count.false ∙ sym l.invariant.2
    ∙ ends l.place l.nodes l.used_hashes l.hash c.args.path.now l.invariant.0 c.loop-nodes-test.false c.if-used_hashes-path-3.true)

pub returns-else-used_hashes-path-3 : goal.returns-else-used_hashes-path-3
returns-else-used_hashes-path-3 c =
    let l = c.loop-nodes in
    let less : l.used_hashes < length c.args.path.now = omega (arith, l.invariant.1, c.if-used_hashes-path-3.false) in
    fails _ _ _ _ (ne_eqb _ _ c.if-used_hashes-path-3.false)
    (climb_is _ _ _ _ c.if-leaf_index-leaf_count.false ∙ sym l.invariant.2
    ∙ left_over l.place l.nodes l.used_hashes l.hash c.args.path.now l.invariant.0 c.loop-nodes-test.false less)
