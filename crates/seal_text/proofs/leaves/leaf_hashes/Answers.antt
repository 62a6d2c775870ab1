use Rattle.std.proofs.Common.{◌≤◌, ◌<◌, ℕ, ◌∙◌, length, sym, arith, take_all}
use Rattle.std.specs.Global.{Vec}
use Rattle.std.proofs.lemmas.List.{length-map}
use Rattle.seal_text.specs.Grown.{texts_of}
use Rattle.seal_text.proofs.LeafFacts.{no_hashes, hash_pushed}
use Rattle.seal_text.proofs.ReceiptFacts.{text_there}
use Rattle.seal_text.proofs.leaves.leaf_hashes.Goals as goal

pub loop-i-init : goal.loop-i-init
loop-i-init c = c.new-hashes.ensures.items ∙ sym (no_hashes c.args.secret.now c.args.section)

pub loop-i-preserved : goal.loop-i-preserved
loop-i-preserved c =
    let texts = texts_of c.args.leaf_texts.now in
    let many = length-map c.args.leaf_texts.now (λ (v : Vec ℕ). v.items) in
    let below = c.loop-i-test.true in
    let within : c.loop-i.i < length texts = omega (arith, below, many) in
    hash_pushed c.args.secret.now c.args.section texts c.loop-i.i c.leaf_hash.result c.salt-salt.result c.as_slice.result.now _ _ within c.loop-i.invariant c.in_ok-push.ensures.items
    c.leaf_hash.ensures (rw c.tag.ensures at c.salt-salt.ensures)
    (c.as_slice.ensures.value ∙ text_there c.args.leaf_texts.now c.loop-i.i c.index-leaf_texts-i.result below c.index-leaf_texts-i.is)

pub returns : goal.returns
returns c =
    let texts = texts_of c.args.leaf_texts.now in
    let past : length texts ≤ c.loop-i.i = omega (arith, c.loop-i-test.false, length-map c.args.leaf_texts.now (λ (v : Vec ℕ). v.items)) in
    rw (take_all c.loop-i.i texts past) at c.loop-i.invariant
