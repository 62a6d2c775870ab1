use Rattle.std.proofs.Common.{◌∙◌, arith}
use Rattle.std.proofs.lemmas.Result.{on_ok_weaker}
use Rattle.seal_text.proofs.ReceiptFacts.{leaves_counted, part_made, text_there}
use Rattle.seal_text.proofs.grown.TextTree.put_part.Goals as goal

pub opening-requires : goal.opening-requires
opening-requires c = let below = c.requires.index in omega (arith, below, leaves_counted c.args.secret.now c.args.self.now c.requires.grown)

pub returns : goal.returns
returns c =
    let self = c.args.self.now in
    on_ok_weaker c.put.result (λ h. part_made c.args.secret.now self c.args.leaf_index c.salt-salt.result _ _ c.args.rows_text.now c.put_root.new.rows_text c.put_opening.new.rows_text c.put.new.text
    c.requires.grown (rw c.tag.ensures at c.salt-salt.ensures) (c.as_slice.ensures.value ∙ c.in_ok-path.ensures)
    (c.as_slice-2.ensures.value ∙ text_there self.leaf_texts.items c.args.leaf_index c.index-leaf_texts-leaf_index.result c.requires.index (rw c.as_slice-leaf_texts.ensures.value at c.index-leaf_texts-leaf_index.is))
    c.in_ok-put_root.ensures c.in_ok-put_opening.ensures h) c.put.ensures
