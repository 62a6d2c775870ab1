use Rattle.std.proofs.Common.{◌∙◌, ℕ, map, sym, ap}
use Rattle.std.specs.Prelude.{nat_lt}
use Rattle.exchange_core.specs.Left.{ProgrammeLeft}
use Rattle.exchange_core.specs.Pending.{has_answers}
use Rattle.exchange_core.specs.Rows.{shown_programme, answer_of}
use Rattle.exchange_core.specs.Notes.{waiting_in}
use Rattle.std.proofs.lemmas.List.{length-map}
use Rattle.exchange_core.specs.Seats.{opened_programme}
use Rattle.exchange_core.proofs.Notes.{length-waiting}
use Rattle.exchange_core.proofs.Rows.{now_at, nonempty}
use Rattle.exchange_core.proofs.programme_row.ProgrammeRow.has_waiting.Goals as goal

pub returns : goal.returns
returns c =
    ap (λ (n : ℕ). nat_lt 0 n) (sym (length-map (waiting_in c.self.inside.notes.items c.index.result.now.part) answer_of ∙ length-waiting c.self.inside.notes.items c.index.result.now.part))
    ∙ nonempty (map answer_of (waiting_in c.self.inside.notes.items c.index.result.now.part))
    ∙ ap (λ (s : ProgrammeLeft). has_answers s) (sym (now_at (shown_programme c.self.inside.notes.items) c.self.inside.seats.items c.args.self.now c.programme.inside.0 c.args.programme c.index.result.now (opened_programme 0 0 0) c.self.view_is c.programme.view_is c.requires c.index.ensures))
