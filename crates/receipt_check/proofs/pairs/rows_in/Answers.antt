use Rattle.std.proofs.Common.{◌≡◌, ◌<◌, ◌≤◌, ◌++◌, ◌∷◌, [], ℕ, List, length, map, sym, ap, ap₂, ◌∙◌, refl, take_all, arith}
use Rattle.std.specs.Global.{Vec}
use Rattle.std.proofs.lemmas.List.{length-map, map_push}
use denote.Ref.{Bor}
use Rattle.receipt_check.specs.Shown as Shown
use Rattle.receipt_check.specs.Held.{bytes_in, rows_of}
use Rattle.receipt_check.specs.Rows.{split_rows}
use Rattle.receipt_check.proofs.Steps.{map_next, there}
use Rattle.receipt_check.proofs.pairs.rows_in.Goals as goal

pub loop-k-preserved : goal.loop-k-preserved
loop-k-preserved c =
    let given = bytes_in c.args.receipt_texts.now in
    let k = c.loop-k.k in
    let made = c.in_ok-split_rows.field-0 in
    let within : k < length given = omega (arith, c.loop-k-test.true, length-map c.args.receipt_texts.now (λ (file : Vec ℕ). file.items)) in
    let one = c.as_slice.ensures.value ∙ sym (there (λ (file : Vec ℕ). file.items) c.args.receipt_texts.now k c.index-receipt_texts-k.result [] c.loop-k-test.true c.index-receipt_texts-k.is) in
    ap rows_of c.in_ok-push.ensures.items ∙ map_push (λ (rows : Vec (Vec (Bor (List ℕ)))). Shown.rows_in rows.items) c.loop-k.rows.items made
    ∙ ap₂ (λ xs x. xs ++ x ∷ []) c.loop-k.invariant (c.in_ok-split_rows.ensures ∙ ap split_rows one) ∙ sym (map_next split_rows given k [] within)

pub returns : goal.returns
returns c =
    let given = bytes_in c.args.receipt_texts.now in
    let past : length given ≤ c.loop-k.k = omega (arith, c.loop-k-test.false, length-map c.args.receipt_texts.now (λ (file : Vec ℕ). file.items)) in
    rw (take_all c.loop-k.k given past) at c.loop-k.invariant
