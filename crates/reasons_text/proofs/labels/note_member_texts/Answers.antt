use Rattle.std.proofs.lemmas.Result.{on_ok_weaker}
use Rattle.reasons_text.specs.Naming.{is_by_key, is_meant, is_own, side_of, text_at}
use Rattle.reasons_text.proofs.LabelFacts.{both_noted}
use Rattle.reasons_text.proofs.labels.note_member_texts.Goals as goal

pub returns : goal.returns
unfolding is_meant
returns c =
    on_ok_weaker c.note_row.result (λ h. both_noted c.args.owners.now c.note_docket_name.new.owners c.note_row.new.owners (is_own c.args.docket.now c.args.side c.args.number)
    (is_by_key (text_at (side_of c.args.side_key.now).names c.args.number) (text_at (side_of c.args.side_key.now).signs c.args.number)) c.args.number c.in_ok-note_docket_name.ensures h) c.note_row.ensures
