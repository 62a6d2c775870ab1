use Rattle.std.proofs.Common.{◌++◌, ◌∙◌, List, ℕ, length, map, ap}
use Rattle.std.specs.Global.{Vec}
use Rattle.std.specs.List.{range_with_len}
use Rattle.seal_text.specs.Grown.{texts_of}
use Rattle.seal_text.specs.Texts.{programme_lists, resident_lists}
use Rattle.seal_text.proofs.texts.lists_texts.Goals as goal

pub returns : goal.returns
returns c = λ draft are.
    let d = c.args.docket.now in
    let first = map (programme_lists d draft c.args.real_names.now) (range_with_len 0 (length d.instance.quotas)) in
    let second = map (resident_lists d draft c.args.real_names.now) (range_with_len 0 (length d.instance.resident_lists)) in
    c.in_ok-push_resident_lists.ensures draft are.written_are
    ∙ ap (λ (t : List (List ℕ)). t ++ second) (c.in_ok-push_programme_lists.ensures draft are.given_are ∙ ap (λ (ts : List (Vec ℕ)). texts_of ts ++ first) c.new-leaf_texts.ensures.items)
