use Rattle.std.proofs.Common.{◌≡◌, [], Some, None, bytes_eq, refl, rules}
use Rattle.std.specs.Prelude.{◌||◌, unwrap_or}
use Rattle.std.proofs.lemmas.Result.{on_ok_weaker}
use Rattle.reasons_text.specs.Naming.{is_by_key, label_of, side_of, text_at}
use Rattle.reasons_text.proofs.LabelFacts.{both_noted, none_noted}
use Rattle.reasons_text.proofs.labels.note_row.Goals as goal

pub returns-in_default : goal.returns-in_default
unfolding is_by_key
returns-in_default c =
    let none : text_at (side_of c.args.side_key.now).names c.args.number ≡ None = search (rules, c.in_default.ensures, c.text_in.ensures, c.as_slice.ensures.value) in
    rw none (none_noted c.args.owners.now (is_by_key None (text_at (side_of c.args.side_key.now).signs c.args.number)) c.args.number (λ text. refl))

pub returns : goal.returns
unfolding is_by_key
returns c =
    let some : text_at (side_of c.args.side_key.now).names c.args.number ≡ Some c.in-Some.name.now = search (rules, c.in-Some.ensures, c.text_in.ensures, c.as_slice.ensures.value) in
    let label : c.args.label.now ≡ label_of c.in-Some.name.now (unwrap_or (text_at (side_of c.args.side_key.now).signs c.args.number) []) = rw some at c.requires in
    let second = rw c.sign_of.ensures at c.in_ok-note-2.ensures in
    on_ok_weaker c.note-3.result (λ h. rw some (both_noted c.args.owners.now c.note.new.owners c.note-3.new.owners (bytes_eq c.in-Some.name.now)
    (λ text. bytes_eq (unwrap_or (text_at (side_of c.args.side_key.now).signs c.args.number) []) text || bytes_eq (label_of c.in-Some.name.now (unwrap_or (text_at (side_of c.args.side_key.now).signs c.args.number) [])) text) c.args.number c.in_ok-note.ensures
    (both_noted c.note.new.owners c.note-2.new.owners c.note-3.new.owners (bytes_eq (unwrap_or (text_at (side_of c.args.side_key.now).signs c.args.number) []))
    (bytes_eq (label_of c.in-Some.name.now (unwrap_or (text_at (side_of c.args.side_key.now).signs c.args.number) []))) c.args.number second (rw label at h)))) c.note-3.ensures
