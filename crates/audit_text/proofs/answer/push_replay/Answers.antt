use Rattle.std.proofs.lemmas.Result.{on_ok_weaker}
use Rattle.records.proofs.RowTextFacts.{adds_both}
use Rattle.audit_text.specs.Answer.{replay_text}
use Rattle.audit_text.proofs.answer.push_replay.Goals as goal

pub returns : goal.returns
unfolding replay_text
returns g c =
    on_ok_weaker c.push_counts.result
    (λ h. adds_both g.W.Write.contents c.args.rows.now c.push_answer.new.rows c.push_counts.new.rows _ _ c.in_ok-push_answer.ensures h)
    c.push_counts.ensures
