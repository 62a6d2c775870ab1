use Rattle.std.proofs.Common.{◌≡◌, fold, take}
use Rattle.desk_scheduler.specs.Turns.{woken_by}
use Rattle.desk_scheduler.proofs.scheduler.Scheduler.list_all.Given as goal

-- the noted desks that the loop has passed are listed, and the loop has not ended the run
abbrev pub invariant-loop-note : goal.invariant-loop-note
invariant-loop-note l = (l.self ≡ fold woken_by l.initial.self (take l.note-index l.note-items)) × (l.self.ended ≡ l.initial.self.ended) × (l.self.waiting ≡ l.initial.self.waiting)
