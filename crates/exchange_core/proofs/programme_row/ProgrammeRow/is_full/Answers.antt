use Rattle.std.proofs.Common.{◌∙◌, ℕ, length, sym, ap, not}
use Rattle.std.specs.Prelude.{nat_lt}
use Rattle.exchange_core.specs.Left.{ProgrammeLeft}
use Rattle.exchange_core.specs.Rows.{shown_programme, answer_of}
use Rattle.exchange_core.specs.Notes.{waiting_in}
use Rattle.std.proofs.lemmas.List.{length-map}
use Rattle.exchange_core.specs.Seats.{opened_programme}
use Rattle.exchange_core.proofs.Notes.{length-waiting}
use Rattle.exchange_core.proofs.Rows.{now_at}
use Rattle.exchange_core.proofs.programme_row.ProgrammeRow.is_full.Goals as goal

pub returns : goal.returns
returns c =
    ap (λ (n : ℕ). not (nat_lt n c.index.result.now.part.room)) (sym (length-map (waiting_in c.self.inside.notes.items c.index.result.now.part) answer_of ∙ length-waiting c.self.inside.notes.items c.index.result.now.part))
    ∙ ap (λ (s : ProgrammeLeft). not (nat_lt (length s.waiting) s.room)) (sym (now_at (shown_programme c.self.inside.notes.items) c.self.inside.seats.items c.args.self.now c.programme.inside.0 c.args.programme c.index.result.now (opened_programme 0 0 0) c.self.view_is c.programme.view_is c.requires c.index.ensures))
