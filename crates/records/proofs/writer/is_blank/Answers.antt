use Rattle.std.proofs.Common.{◌==◌, ◌∙◌, ◌≢◌, ℕ, List, [], length, map, ap, sym, arith}
use Rattle.std.proofs.lemmas.List.{get_or-map, length-map}
use Rattle.records.proofs.RowTextFacts.{blank_one, blank_other}
use Rattle.records.proofs.writer.is_blank.Goals as goal

pub returns-then-fields-eq1 : goal.returns-then-fields-eq1
returns-then-fields-eq1 c =
    let one = length-map c.args.fields.now (λ f. f.now) ∙ c.if-fields-eq1.true in
    c.is_empty.ensures ∙ sym (blank_one (map (λ f. f.now) c.args.fields.now) [] one
    ∙ ap (λ (field : List ℕ). length field == 0) (get_or-map (λ f. f.now) c.args.fields.now 0 _ [] (omega (arith, c.if-fields-eq1.true))))

pub returns : goal.returns
returns c =
    let size = length-map c.args.fields.now (λ f. f.now) in
    let other : length (map (λ f. f.now) c.args.fields.now) ≢ 1 = λ e. c.if-fields-eq1.false (sym size ∙ e) in
    c.is_empty-2.ensures ∙ sym (blank_other _ other ∙ ap (λ n. n == 0) size)
