use Rattle.std.proofs.Common.{◌≡◌, ◌<◌, ◌≤◌, ◌++◌, ◌∷◌, [], ℕ, ◌+◌, List, Bool, true, false, filter, length, take, take_all, sym, ap, ap₂, ◌∙◌, refl, append-nil, arith, if◌then◌else◌, is_some}
use Rattle.std.specs.Global.{Vec}
use Rattle.std.specs.List.{flat_map}
use Rattle.std.specs.Prelude.{slice_index_or}
use Rattle.std.proofs.lemmas.List.{length-map}
use Rattle.std.proofs.lemmas.List.Elements.{filter_more}
use Rattle.receipt_check.specs.Folder.{receipt_at, words_at}
use Rattle.receipt_check.specs.Pair.{difference, pair_words}
use Rattle.receipt_check.specs.Held.{receipts_of}
use Rattle.receipt_check.specs.Receipt.{Receipt}
use Rattle.receipt_check.specs.Side.{receipt_of}
use Rattle.receipt_check.proofs.FolderFacts.{ArePlaces, differing_there, receipt_is, side_is}
use Rattle.receipt_check.proofs.Steps.{grows_at, grows_none, grown_all}
use Rattle.receipt_check.proofs.folder.FolderReceipts.put_differing_pairs.Goals as goal

pub index-requires : goal.index-requires
index-requires c =
    let there = differing_there c.args.self.now c.args.pairs.now c.loop-k.k c.requires.pairs c.loop-k-test.true in
    omega (arith, there.first, c.args.self.now.receipts.ok)

pub index-requires-in-loop-k : goal.index-requires-in-loop-k
index-requires-in-loop-k c =
    let there = differing_there c.args.self.now c.args.pairs.now c.loop-k.k c.requires.pairs c.loop-k-test.true in
    omega (arith, there.second, c.args.self.now.receipts.ok)

pub loop-k-init : goal.loop-k-init
loop-k-init c = grows_none c.args.sentences.now

pub first_difference-requires-clause-resident : goal.first_difference-requires-clause-resident
first_difference-requires-clause-resident c =
    let there = differing_there c.args.self.now c.args.pairs.now c.loop-k.k c.requires.pairs c.loop-k-test.true in
    side_is c.args.self.now _ c.index.result.now c.requires.held there.first c.index.ensures

pub first_difference-requires-clause-programme : goal.first_difference-requires-clause-programme
first_difference-requires-clause-programme c =
    let there = differing_there c.args.self.now c.args.pairs.now c.loop-k.k c.requires.pairs c.loop-k-test.true in
    side_is c.args.self.now _ c.index-in-loop-k.result.now c.requires.held there.second c.index-in-loop-k.ensures

pub put_pair-requires-clause-resident : goal.put_pair-requires-clause-resident
put_pair-requires-clause-resident c =
    let there = differing_there c.args.self.now c.args.pairs.now c.loop-k.k c.requires.pairs c.loop-k-test.true in
    side_is c.args.self.now _ c.index.result.now c.requires.held there.first c.index.ensures

pub put_pair-requires-clause-programme : goal.put_pair-requires-clause-programme
put_pair-requires-clause-programme c =
    let there = differing_there c.args.self.now c.args.pairs.now c.loop-k.k c.requires.pairs c.loop-k-test.true in
    side_is c.args.self.now _ c.index-in-loop-k.result.now c.requires.held there.second c.index-in-loop-k.ensures

pub loop-k-preserved : goal.loop-k-preserved
loop-k-preserved c =
    let h = c.args.self.now in
    let rs = receipts_of h in
    let pairs = c.args.pairs.now in
    let k = c.loop-k.k in
    let pair = slice_index_or pairs k (0, 0) in
    let there = differing_there h pairs k c.requires.pairs c.loop-k-test.true in
    let resident : receipt_at rs pair.0 ≡ receipt_of c.index.result.now = receipt_is h pair.0 c.index.result.now there.first c.index.ensures in
    let programme : receipt_at rs pair.1 ≡ receipt_of c.index-in-loop-k.result.now = receipt_is h pair.1 c.index-in-loop-k.result.now there.second c.index-in-loop-k.ensures in
    let words = c.in_ok-put_pair.ensures ∙ ap₂ (λ (r p : Receipt). c.loop-k.sentences.items ++ pair_words r p) (sym resident) (sym programme) in
    grows_at (words_at rs) c.args.sentences.now c.loop-k.sentences c.put_pair.new.sentence pairs k (0, 0) c.loop-k-test.true c.loop-k.invariant words

pub returns : goal.returns
returns c = grown_all (words_at (receipts_of c.args.self.now)) c.args.sentences.now c.loop-k.sentences c.args.pairs.now c.loop-k.k c.loop-k-test.false c.loop-k.invariant
