-- The result of a closed run, and what is written about it.
use Rattle.std.proofs.Common.{◌≡◌, ℕ, List, slice_index_or, Option, refl, sym, ◌∙◌}
use Rattle.std.specs.List.{All}
use Rattle.std.proofs.lemmas.Option.{slice_get-get_or}
use Rattle.match_model.specs.Instance.{Instance, IsInstance}
use Rattle.exchange_core.specs.declared.event.Event.{Event}
use Rattle.exchange_core.specs.declared.event.Event.TheVariants.{Offer, Take, Answer, Hear, Close}
use Rattle.exchange_core.specs.declared.event.Capacity.{Capacity}
use Rattle.exchange_core.specs.Legal.{IsLegal, IsClosed}
use Rattle.exchange_core.specs.Left.{given}
use Rattle.exchange_core.proofs.Members.{HasMembers, members_at}
use Rattle.settle_law.specs.Stable.{IsStable}
use Rattle.settle_law.specs.SettledLaws.{OneSettledLaw}
use Rattle.match_pool.specs.Done.{IsSettledRun, AreCounted}
use Rattle.docket.specs.Contents.{Contents}
use Rattle.docket.specs.Whole.{NamesMembers, IsSheetOf, IsWhole}
use Rattle.audit_text.proofs.Audits.{programme_of_acceptable}
use Rattle.command_line.specs.declared.options.MatchOptions.{MatchOptions}
use Rattle.command_line.specs.Options.{IsWithinLimits}
use Rattle.residency.specs.Serving.{ClosedRun}

-- each event of a legal list names members
pub names_members : (inst : Instance) (cap : Capacity) (j : List Event) → IsLegal inst cap j → All (NamesMembers inst) j
names_members inst cap j legal = λ k d within. named (slice_index_or j k d) (members_at inst cap j k (slice_index_or j k d) legal (slice_get-get_or j k d within))
  where
    named : (e : Event) → HasMembers inst e → NamesMembers inst e
    named (Offer p r) h = record { programme = h.0; resident = h.1 }
    named (Take r p) h = record { programme = h.0; resident = h.1 }
    named (Answer r p k) h = record { programme = h.0; resident = h.1 }
    named (Hear p r k) h = record { programme = h.0; resident = h.1 }
    named Close h = tt

-- a stable assignment of a docket's instance is a sheet for the docket
pub sheet_of : (d : Contents) (m : List (Option ℕ)) → IsWhole d → IsInstance d.instance → IsStable d.instance m → IsSheetOf d m
sheet_of d m whole instance stable = record {
  one_entry_each = stable.is_assignment.one_place_each ∙ sym whole.residents;
  members = λ r p h. rw whole.programmes (programme_of_acceptable d.instance r p instance (stable.is_assignment.pairs_acceptable r p h));
}

-- a run that closed, with valid options, has the result that a match promises
abbrev pub closed_run : (d : Contents) (o : MatchOptions) (inst : Instance) (journal : List Event) (who entered : List ℕ) (m : List (Option ℕ)) →
    inst ≡ d.instance → OneSettledLaw → IsWithinLimits o → IsLegal inst o.capacity journal → IsClosed journal → m ≡ given inst journal →
    IsSettledRun inst journal m → AreCounted o.workers journal who entered → ClosedRun d o
closed_run d o inst journal who entered m same alone limits legal closed is_given run counts = record {
  limits = limits;
  assignment = m;
  outcome = record {
    exchanged = record { journal = journal; legal = rw same at legal; closed = closed; is_given = rw same at is_given };
    stable = rw same at run.stable;
    settled = record { settled = rw same at run.settled; alone = λ other h. alone d.instance other m h (rw same at run.settled) };
  };
  by = record { workers = o.workers; who = who };
  workers = refl;
  by_worker = record { one_number_each = counts.one_worker_each; workers = record { some = limits.some_worker; few = limits.few_workers; numbers = counts.among_the_workers } };
}
