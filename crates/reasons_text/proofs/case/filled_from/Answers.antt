use Rattle.std.proofs.Common.{None, sym, subst}
use Rattle.match_model.specs.Instance.{Instance}
use Rattle.match_model.specs.Written.{AreWritten, Written}
use Rattle.match_reasons.specs.Reason.{AreTaken}
use Rattle.reasons_text.proofs.AnswerFacts.{made_of_lists}
use Rattle.reasons_text.proofs.case.filled_from.Goals as goal

pub new-listed_instance-requires : goal.new-listed_instance-requires
new-listed_instance-requires c =
    subst (λ (i : Instance). AreWritten i c.args.written_lists.now) (sym c.instance.ensures.instance)
    (made_of_lists c.requires.limits None c.args.docket.now c.args.written_lists.now c.requires.read)

pub taken_of-requires : goal.taken_of-requires
taken_of-requires c =
    subst (λ (w : Written). AreTaken w c.args.sheet.now c.args.taken_places.now) (sym c.new-listed_instance.ensures.written) c.requires.taken

pub returns : goal.returns
returns c = c.taken_of.ensures.members
