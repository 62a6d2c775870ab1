use Rattle.std.proofs.Common.{◌≡◌, ◌<◌, ◌≤◌, ◌++◌, ◌∷◌, [], ℕ, List, length, map, sym, ap, ap₂, ◌∙◌, refl, take_all, arith}
use Rattle.std.specs.Global.{Vec}
use Rattle.std.proofs.lemmas.List.{length-map, map_push}
use Rattle.receipt_check.specs.Held.{bytes_in}
use Rattle.receipt_check.specs.Pair.{short_text}
use Rattle.receipt_check.proofs.Steps.{map_next, there}
use Rattle.receipt_check.proofs.pairs.texts_of.Goals as goal

pub loop-k-preserved : goal.loop-k-preserved
loop-k-preserved c =
    let given = bytes_in c.args.receipt_files.now in
    let k = c.loop-k.k in
    let made = c.in_ok-short_text.field-0 in
    let within : k < length given = omega (arith, c.loop-k-test.true, length-map c.args.receipt_files.now (λ (file : Vec ℕ). file.items)) in
    let one = c.as_slice.ensures.value ∙ sym (there (λ (file : Vec ℕ). file.items) c.args.receipt_files.now k c.index-receipt_files-k.result [] c.loop-k-test.true c.index-receipt_files-k.is) in
    ap bytes_in c.in_ok-push.ensures.items ∙ map_push (λ (file : Vec ℕ). file.items) c.loop-k.receipt_texts.items made
    ∙ ap₂ (λ xs x. xs ++ x ∷ []) c.loop-k.invariant (c.in_ok-short_text.ensures ∙ ap short_text one) ∙ sym (map_next short_text given k [] within)

pub returns : goal.returns
returns c =
    let given = bytes_in c.args.receipt_files.now in
    let past : length given ≤ c.loop-k.k = omega (arith, c.loop-k-test.false, length-map c.args.receipt_files.now (λ (file : Vec ℕ). file.items)) in
    rw (take_all c.loop-k.k given past) at c.loop-k.invariant
