use Rattle.std.proofs.Common.{sym, rules}
use Rattle.docket_names.specs.Texts.{number_in}
use Rattle.docket_names.proofs.NameFacts.{longer_unnumbered}
use Rattle.docket_names.proofs.texts.Texts.find.Goals as goal

pub returns-then-text-gt-MAX_NAME : goal.returns-then-text-gt-MAX_NAME
returns-then-text-gt-MAX_NAME c =
    rw (← c.self.view_is) (sym (longer_unnumbered c.self.inside.seen_names.keys c.args.text.now c.self.invariant.0 (search rules)))

pub returns : goal.returns
unfolding number_in
returns c = rw (← c.self.view_is, ← c.new.ensures) c.get_index_of.ensures.index
