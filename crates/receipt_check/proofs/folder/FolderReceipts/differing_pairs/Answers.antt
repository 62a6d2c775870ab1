use Rattle.std.proofs.Common.{◌≡◌, ◌<◌, ◌≤◌, ◌++◌, ◌∷◌, [], ℕ, ◌+◌, List, Bool, true, false, filter, length, take, take_all, sym, ap, ap₂, ◌∙◌, refl, append-nil, arith, if◌then◌else◌, is_some}
use Rattle.std.specs.Global.{Vec}
use Rattle.std.specs.List.{flat_map}
use Rattle.std.specs.Prelude.{slice_index_or}
use Rattle.std.proofs.lemmas.List.{length-map}
use Rattle.std.proofs.lemmas.List.Elements.{filter_more}
use Rattle.receipt_check.specs.Folder.{Pairs, differs, receipt_at}
use Rattle.receipt_check.specs.Pair.{difference, pair_words}
use Rattle.receipt_check.specs.Held.{receipts_of}
use Rattle.receipt_check.specs.Receipt.{Receipt}
use Rattle.receipt_check.specs.Side.{receipt_of}
use Rattle.receipt_check.proofs.FolderFacts.{ArePlaces, pair_there, receipt_is, side_is}
use Rattle.receipt_check.proofs.Steps.{grows_at, grows_none, grown_all}
use Rattle.receipt_check.proofs.folder.FolderReceipts.differing_pairs.Goals.{then-is_some+in_ok-push, else-is_some}
use Rattle.receipt_check.proofs.folder.FolderReceipts.differing_pairs.Goals as goal

pub index-requires : goal.index-requires
index-requires c =
    let there = pair_there c.args.self.now c.args.pairs.now c.loop-k.k c.requires.pairs c.loop-k-test.true in
    omega (arith, there.first, c.args.self.now.receipts.ok)

pub index-requires-in-loop-k : goal.index-requires-in-loop-k
index-requires-in-loop-k c =
    let there = pair_there c.args.self.now c.args.pairs.now c.loop-k.k c.requires.pairs c.loop-k-test.true in
    omega (arith, there.second, c.args.self.now.receipts.ok)

pub first_difference-requires-clause-resident : goal.first_difference-requires-clause-resident
first_difference-requires-clause-resident c =
    let there = pair_there c.args.self.now c.args.pairs.now c.loop-k.k c.requires.pairs c.loop-k-test.true in
    side_is c.args.self.now _ c.index.result.now c.requires.held there.first c.index.ensures

pub first_difference-requires-clause-programme : goal.first_difference-requires-clause-programme
first_difference-requires-clause-programme c =
    let there = pair_there c.args.self.now c.args.pairs.now c.loop-k.k c.requires.pairs c.loop-k-test.true in
    side_is c.args.self.now _ c.index-in-loop-k.result.now c.requires.held there.second c.index-in-loop-k.ensures

pub loop-k-preserved : goal.loop-k-preserved
loop-k-preserved c =
    let h = c.args.self.now in
    let rs = receipts_of h in
    let pairs = c.args.pairs.now in
    let k = c.loop-k.k in
    let pair = slice_index_or pairs k (0, 0) in
    let there = pair_there h pairs k c.requires.pairs c.loop-k-test.true in
    let resident : receipt_at rs pair.0 ≡ receipt_of c.index.result.now = receipt_is h pair.0 c.index.result.now there.first c.index.ensures in
    let programme : receipt_at rs pair.1 ≡ receipt_of c.index-in-loop-k.result.now = receipt_is h pair.1 c.index-in-loop-k.result.now there.second c.index-in-loop-k.ensures in
    let test : differs rs pair ≡ c.is_some.result = ap₂ (λ (r p : Receipt). is_some (difference r p)) resident programme ∙ ap is_some (sym c.first_difference.ensures) ∙ sym c.is_some.ensures in
    let more = filter_more (differs rs) pairs k (0, 0) c.loop-k-test.true in
    let kept = filter (differs rs) (take k pairs) in
    elim c.if-is_some.branch [
      | then-is_some+in_ok-push w ↦
          ap (λ (v : Vec (ℕ × ℕ)). v.items) w.differing_pairs-is ∙ w.in_ok-push.ensures.items ∙ ap (λ (xs : Pairs). xs ++ pair ∷ []) c.loop-k.invariant
          ∙ sym (more ∙ ap (λ (b : Bool). kept ++ (if b then pair ∷ [] else [])) (test ∙ w.if-is_some.true))
      | else-is_some w ↦
          ap (λ (v : Vec (ℕ × ℕ)). v.items) w.differing_pairs-is ∙ c.loop-k.invariant ∙ sym (append-nil kept)
          ∙ sym (more ∙ ap (λ (b : Bool). kept ++ (if b then pair ∷ [] else [])) (test ∙ w.if-is_some.false))
    ]
