use Rattle.std.proofs.Common.{◌≡◌, ◌||◌, ◌++◌, ◌∷◌, [], List, not, false, refl, sym, ap, ◌∙◌, length, arith, ℕ}
use Rattle.std.specs.Prelude.{slice_index_or}
use Rattle.std.specs.Global.{Vec}
use Rattle.receipt_check.specs.Faults.{plain_number}
use Rattle.receipt_check.specs.Pair.{is_number}
use Rattle.receipt_check.specs.Receipt.{is_programme}
use Rattle.receipt_check.specs.Side.{receipt_of}
use Rattle.receipt_check.specs.declared.folder.FolderReceipts.{FolderReceipts}
use Rattle.receipt_check.specs.declared.kind.Kind.{Kind}
use Rattle.receipt_check.specs.declared.kind.Kind.TheVariants.{Programme, Resident}
use Rattle.receipt_check.specs.declared.side.ComparedReceipt.{ComparedReceipt}
use Rattle.receipt_check.proofs.FolderFacts.{adds_none, adds_one, held_push}
use Rattle.receipt_check.proofs.folder.FolderReceipts.add.Goals.{in-Programme+in_ok-add-in-Programme, in-Resident+in_ok-add-in-Resident}
use Rattle.receipt_check.proofs.folder.FolderReceipts.add.Goals as goal

pub returns-clause-held : goal.returns-clause-held
returns-clause-held c =
    let old = c.args.self.now in
    let r = receipt_of c.args.receipt in
    let count : c.len-file_number.result ≡ length old.receipts.items = omega (arith, c.len-file_number.ensures, old.receipts.ok) in
    elim c.match-receipt.branch [
      | in-Programme+in_ok-add-in-Programme w ↦
          let sides = c.note_number.ensures.sides ∙ ap (λ (h : FolderReceipts). h.receipts) w.self-is in
          let residents = c.note_number.ensures.residents ∙ ap (λ (h : FolderReceipts). h.residents) w.self-is in
          let programmes = c.note_number.ensures.programmes ∙ ap (λ (h : FolderReceipts). h.programmes) w.self-is in
          held_push old _ c.args.receipt c.requires.held c.requires.side
          (c.in_ok-push.ensures.items ∙ ap (λ (v : Vec ComparedReceipt). v.items ++ c.args.receipt ∷ []) sides)
          (λ n. c.in_ok-note_number.ensures.noted n ∙ ap (λ (h : FolderReceipts). is_number (plain_number r.index) n || slice_index_or h.noted_members.items n false) w.self-is)
          (adds_none Resident r (length old.receipts.items) old.residents _ (ap (λ (k : Kind). not (is_programme k)) w.in-Programme.is) residents)
          (rw programmes (adds_one Programme r (length old.receipts.items) old.programmes _ (ap is_programme w.in-Programme.is)
          w.in_ok-add-in-Programme.ensures.names (w.in_ok-add-in-Programme.ensures.files ∙ ap (λ (n : ℕ). old.programmes.file_numbers.items ++ n ∷ []) count)))
      | in-Resident+in_ok-add-in-Resident w ↦
          let sides = c.note_number.ensures.sides ∙ ap (λ (h : FolderReceipts). h.receipts) w.self-is in
          let residents = c.note_number.ensures.residents ∙ ap (λ (h : FolderReceipts). h.residents) w.self-is in
          let programmes = c.note_number.ensures.programmes ∙ ap (λ (h : FolderReceipts). h.programmes) w.self-is in
          held_push old _ c.args.receipt c.requires.held c.requires.side
          (c.in_ok-push.ensures.items ∙ ap (λ (v : Vec ComparedReceipt). v.items ++ c.args.receipt ∷ []) sides)
          (λ n. c.in_ok-note_number.ensures.noted n ∙ ap (λ (h : FolderReceipts). is_number (plain_number r.index) n || slice_index_or h.noted_members.items n false) w.self-is)
          (rw residents (adds_one Resident r (length old.receipts.items) old.residents _ (ap (λ (k : Kind). not (is_programme k)) w.in-Resident.is)
          w.in_ok-add-in-Resident.ensures.names (w.in_ok-add-in-Resident.ensures.files ∙ ap (λ (n : ℕ). old.residents.file_numbers.items ++ n ∷ []) count)))
          (adds_none Programme r (length old.receipts.items) old.programmes _ (ap is_programme w.in-Resident.is) programmes)
    ]
