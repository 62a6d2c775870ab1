use Rattle.std.proofs.Common.{◌∙◌, ℕ, map, sym, ap}
use Rattle.std.specs.Prelude.{nat_lt}
use Rattle.exchange_core.specs.Left.{ResidentLeft}
use Rattle.exchange_core.specs.Pending.{has_offers}
use Rattle.exchange_core.specs.Rows.{shown_resident, programme_of}
use Rattle.exchange_core.specs.Notes.{waiting_in}
use Rattle.std.proofs.lemmas.List.{length-map}
use Rattle.exchange_core.specs.Seats.{opened_resident}
use Rattle.exchange_core.proofs.Notes.{length-waiting}
use Rattle.exchange_core.proofs.Rows.{now_at, nonempty}
use Rattle.exchange_core.proofs.resident_row.ResidentRow.has_waiting.Goals as goal

pub returns : goal.returns
returns c =
    ap (λ (n : ℕ). nat_lt 0 n) (sym (length-map (waiting_in c.self.inside.notes.items c.index.result.now.part) programme_of ∙ length-waiting c.self.inside.notes.items c.index.result.now.part))
    ∙ nonempty (map programme_of (waiting_in c.self.inside.notes.items c.index.result.now.part))
    ∙ ap (λ (s : ResidentLeft). has_offers s) (sym (now_at (shown_resident c.self.inside.notes.items) c.self.inside.seats.items c.args.self.now c.resident.inside.0 c.args.resident c.index.result.now (opened_resident 0) c.self.view_is c.resident.view_is c.requires c.index.ensures))
