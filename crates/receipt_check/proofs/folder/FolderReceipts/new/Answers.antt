use Rattle.std.proofs.Common.{◌≡◌, false, refl, []}
use Rattle.std.proofs.lemmas.List.Elements.{All-nil, All-same}
use Rattle.receipt_check.specs.Folder.{files_from}
use Rattle.receipt_check.specs.Side.{IsSide}
use Rattle.receipt_check.proofs.folder.FolderReceipts.new.Goals as goal

pub returns-clause-held : goal.returns-clause-held
unfolding files_from
returns-clause-held c = record {
  each = All-same IsSide c.new.result.items [] c.new.ensures.items (All-nil IsSide);
  numbers_are = λ n. rw (c.new.ensures.items, c.new-2.ensures.items) refl;
  residents_are = record { names_are = rw c.new.ensures.items c.new-3.ensures.names; files_are = rw c.new.ensures.items c.new-3.ensures.files };
  programmes_are = record { names_are = rw c.new.ensures.items c.new-4.ensures.names; files_are = rw c.new.ensures.items c.new-4.ensures.files };
}
