use Rattle.std.proofs.Common.{◌∙◌, ap, arith, Some}
use Rattle.docket_names.proofs.NameFacts.{name_length}
use Rattle.docket_names.proofs.GuessFacts.{guesses_kept, guess_right}
use Rattle.docket_names.proofs.texts.Texts.join.Goals as goal

pub new-key-requires : goal.new-key-requires
new-key-requires c = let few = name_length c.args.name.now c.requires in omega arith

pub invariant_of-self-2 : goal.invariant_of-self-2
invariant_of-self-2 c =
    let texts = c.insert.new.seen_names.keys in
    let kept = guesses_kept c.self.inside.seen_names.keys texts c.self.inside.guesses.items c.in_ok-number.ensures.kept c.self.invariant.1 in
    let at = c.in_ok-number.ensures.number ∙ ap Some c.new-key.ensures in
    let bytes = rw c.new-key.ensures at c.word-word.ensures in (
      c.in_ok-number.ensures.names,
      c.set_guess.ensures texts (c.make_room.ensures texts kept) (guess_right texts c.args.name.now c.word-word.result c.in_ok-number.number at bytes),
    )
