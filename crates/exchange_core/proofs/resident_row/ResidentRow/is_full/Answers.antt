use Rattle.std.proofs.Common.{◌∙◌, ℕ, length, sym, ap, not}
use Rattle.std.specs.Prelude.{nat_lt}
use Rattle.exchange_core.specs.Left.{ResidentLeft}
use Rattle.exchange_core.specs.Rows.{shown_resident, programme_of}
use Rattle.exchange_core.specs.Notes.{waiting_in}
use Rattle.std.proofs.lemmas.List.{length-map}
use Rattle.exchange_core.specs.Seats.{opened_resident}
use Rattle.exchange_core.proofs.Notes.{length-waiting}
use Rattle.exchange_core.proofs.Rows.{now_at}
use Rattle.exchange_core.proofs.resident_row.ResidentRow.is_full.Goals as goal

pub returns : goal.returns
returns c =
    ap (λ (n : ℕ). not (nat_lt n c.index.result.now.part.room)) (sym (length-map (waiting_in c.self.inside.notes.items c.index.result.now.part) programme_of ∙ length-waiting c.self.inside.notes.items c.index.result.now.part))
    ∙ ap (λ (s : ResidentLeft). not (nat_lt (length s.waiting) s.room)) (sym (now_at (shown_resident c.self.inside.notes.items) c.self.inside.seats.items c.args.self.now c.resident.inside.0 c.args.resident c.index.result.now (opened_resident 0) c.self.view_is c.resident.view_is c.requires c.index.ensures))
