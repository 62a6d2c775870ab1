use Rattle.std.proofs.Common.{take, subst, ◌≡◌, List, ℕ}
use Rattle.seal.specs.Tree.{root}
use Rattle.seal.proofs.AllLevels.{last_read}
use Rattle.seal.proofs.tree.Tree.root.Goals as goal

pub returns-in-Some : goal.returns-in-Some
returns-in-Some c =
    let t = c.self.inside in
    subst (λ (hs : List (List ℕ)). c.in-Some.top.now ≡ root hs) c.self.view_is
    (last_read c.deref.result.now t.nodes.items (take t.leaf_count t.nodes.items) c.in-Some.top.now c.deref.ensures.value c.self.invariant.1 c.in-Some.ensures.value)
