use Rattle.std.proofs.Common.{◌≡◌, ◌++◌, map}
use Rattle.std.specs.List.{range_with_len}
use Rattle.match_model.specs.Draft.{Draft}
use Rattle.seal_text.specs.Grown.{texts_of}
use Rattle.seal_text.specs.Texts.{programme_lists}
use Rattle.seal_text.proofs.texts.push_programme_lists.Given as goal

abbrev pub invariant-loop-p : goal.invariant-loop-p
invariant-loop-p l =
    (draft : Draft) → l.given_lists ≡ draft.programme_lists → texts_of l.leaf_texts.items ≡ texts_of l.fn.leaf_texts.items ++ map (programme_lists l.docket draft l.real_names) (range_with_len 0 l.p)
