use Rattle.std.proofs.Common.{◌++◌, ◌∙◌, List, ℕ, length, map, ap}
use Rattle.std.specs.List.{range_with_len}
use Rattle.seal_text.specs.Texts.{programme_result}
use Rattle.seal_text.proofs.texts.result_texts.Goals as goal

pub returns : goal.returns
returns c =
    let case = c.args.case.now in
    let first = map (programme_result case.docket case.sheet) (range_with_len 0 (length case.docket.instance.quotas)) in
    let pushed = c.in_ok-push_resident_results.ensures in
    record {
      residents = pushed.texts;
      are = pushed.are;
      texts_are = pushed.pushed ∙ ap (λ (t : List (List ℕ)). t ++ pushed.texts)
          (c.in_ok-leaf_texts.ensures);
    }
