use Rattle.std.proofs.Common.{◌∙◌, Some, length, sym, ap, slice_get}
use Rattle.exchange_core.specs.declared.programme_row.ProgrammeSeat.{ProgrammeSeat}
use Rattle.exchange_core.specs.Left.{ProgrammeLeft}
use Rattle.exchange_core.specs.Notes.{waiting_in}
use Rattle.exchange_core.specs.Rows.{shown_programme, answer_of}
use Rattle.exchange_core.specs.Seats.{opened_programme}
use Rattle.exchange_core.proofs.Rows.{index_within, part_within, now_at, front_some, front_none}
use Rattle.exchange_core.proofs.programme_row.ProgrammeRow.first_waiting.Goals as goal

pub first-requires-clause-within : goal.first-requires-clause-within
first-requires-clause-within c =
    part_within (λ (s : ProgrammeSeat). s.part) shown_programme c.self.inside.seats.items (length c.self.inside.notes.items) c.programme.inside.0 c.index.result.now
    (index_within (shown_programme c.self.inside.notes.items) c.self.inside.seats.items c.args.self.now c.programme.inside.0 c.args.programme c.self.view_is c.programme.view_is c.requires) c.index.ensures c.self.invariant.laid

pub returns-in-Some : goal.returns-in-Some
returns-in-Some c =
    ap Some c.answer_of.ensures
    ∙ sym (front_some answer_of (waiting_in c.self.inside.notes.items c.index.result.now.part) c.in-Some.note (sym c.first.ensures ∙ c.in-Some.is))
    ∙ ap (λ (s : ProgrammeLeft). slice_get s.waiting 0) (sym (now_at (shown_programme c.self.inside.notes.items) c.self.inside.seats.items c.args.self.now c.programme.inside.0 c.args.programme c.index.result.now (opened_programme 0 0 0) c.self.view_is c.programme.view_is c.requires c.index.ensures))

pub returns-in-None : goal.returns-in-None
returns-in-None c =
    sym (front_none answer_of (waiting_in c.self.inside.notes.items c.index.result.now.part) (sym c.first.ensures ∙ c.in-None.is))
    ∙ ap (λ (s : ProgrammeLeft). slice_get s.waiting 0) (sym (now_at (shown_programme c.self.inside.notes.items) c.self.inside.seats.items c.args.self.now c.programme.inside.0 c.args.programme c.index.result.now (opened_programme 0 0 0) c.self.view_is c.programme.view_is c.requires c.index.ensures))
