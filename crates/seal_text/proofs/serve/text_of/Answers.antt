use Rattle.std.proofs.Common.{◌∙◌, ap, refl, length, ℕ, List}
use Rattle.std.specs.Global.{Vec}
use Rattle.seal_text.specs.Grown.{member_count, texts_of}
use Rattle.seal_text.proofs.ServeFacts.{counted_too, wanted_made}
use Rattle.seal_text.proofs.serve.text_of.Goals as goal

pub put_wanted-requires-clause-trees : goal.put_wanted-requires-clause-trees
put_wanted-requires-clause-trees c =
    let lists = c.in_ok-lists.lists in
    let count = ap (λ (t : List (Vec ℕ)). length t) c.in_ok-lists.ensures.texts ∙ c.requires.lists in
    record {
      lists = record { is_grown = c.in_ok-lists.ensures.grown; section_is = c.in_ok-lists.ensures.section; count_is = refl };
      outcome = c.in_ok-outcome.ensures.grown (length lists.leaf_texts.items) (counted_too c.args.outcome (member_count c.args.docket.now) (length lists.leaf_texts.items) count c.requires.outcome);
    }

pub put_wanted-requires-clause-count : goal.put_wanted-requires-clause-count
put_wanted-requires-clause-count c = ap (λ (t : List (Vec ℕ)). length t) c.in_ok-lists.ensures.texts ∙ c.requires.lists

pub returns : goal.returns
returns c =
    wanted_made c.args.text_kind c.args.secret.now c.args.docket.now _ _ _ _ c.new-text.result.items c.put_wanted.new.rows_text.items c.new-text.ensures.items c.in_ok-put_wanted.ensures
    (ap texts_of c.in_ok-lists.ensures.texts) c.in_ok-outcome.ensures.texts
