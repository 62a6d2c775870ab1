use Rattle.std.proofs.Common.{◌≡◌, ◌++◌, map}
use Rattle.std.specs.List.{range_with_len}
use Rattle.match_model.specs.Draft.{Draft}
use Rattle.match_model.specs.Written.{written_of}
use Rattle.seal_text.specs.Grown.{texts_of}
use Rattle.seal_text.specs.Texts.{resident_lists}
use Rattle.seal_text.proofs.texts.push_resident_lists.Given as goal

abbrev pub invariant-loop-r : goal.invariant-loop-r
invariant-loop-r l =
    (draft : Draft) → l.written_lists ≡ written_of draft → texts_of l.leaf_texts.items ≡ texts_of l.fn.leaf_texts.items ++ map (resident_lists l.docket draft l.real_names) (range_with_len 0 l.r)
