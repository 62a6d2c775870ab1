use Rattle.std.proofs.Common.{◌≡◌, ◌<◌, ◌++◌, [], ℕ, Bool, true, false, not, length, sym, ap, ◌∙◌, append-nil, arith, if◌then◌else◌}
use Rattle.std.specs.Global.{Vec}
use Rattle.std.proofs.lemmas.List.{length-map}
use Rattle.receipt_check.specs.Folder.{resident_pairs, is_of, receipt_at, choice_pairs}
use Rattle.receipt_check.specs.Held.{receipts_of}
use Rattle.receipt_check.specs.Side.{receipt_of}
use Rattle.receipt_check.specs.Receipt.{Receipt, is_programme}
use Rattle.receipt_check.specs.declared.kind.Kind.TheVariants.{Resident}
use Rattle.receipt_check.proofs.FolderFacts.{receipt_is}
use Rattle.receipt_check.proofs.PairFacts.{pairs_next}
use Rattle.receipt_check.proofs.folder.FolderReceipts.push_residents.Goals.{then-not-is_programme+in_ok-push_choices, else-not-is_programme}
use Rattle.receipt_check.proofs.folder.FolderReceipts.push_residents.Goals as goal

pub loop-k-init : goal.loop-k-init
loop-k-init c = sym (append-nil c.args.pairs.now.items)

pub loop-k-preserved : goal.loop-k-preserved
loop-k-preserved c =
    let h = c.args.self.now in
    let rs = receipts_of h in
    let k = c.loop-k.k in
    let before = c.loop-k.pairs.items in
    let within : k < length h.receipts.items = omega (arith, c.loop-k-test.true, c.len-k-end.ensures, h.receipts.ok) in
    let is = receipt_is h k c.index.result.now within c.index.ensures in
    let side : is_of Resident (receipt_at rs k) ≡ not c.is_programme.result = ap (λ (r : Receipt). is_of Resident r) is ∙ ap not (sym c.is_programme.ensures) in
    let made = λ (b : Bool). if b then choice_pairs rs k else [] in
    elim c.if-not-is_programme.branch [
      | then-not-is_programme+in_ok-push_choices w ↦ pairs_next (resident_pairs rs) c.args.pairs.now.items before _ k c.loop-k.invariant
          (ap (λ (v : Vec (ℕ × ℕ)). v.items) w.pairs-is ∙ w.in_ok-push_choices.ensures ∙ ap (λ (b : Bool). before ++ made b) (sym (side ∙ ap not w.if-not-is_programme.true)))
      | else-not-is_programme w ↦ pairs_next (resident_pairs rs) c.args.pairs.now.items before _ k c.loop-k.invariant
          (ap (λ (v : Vec (ℕ × ℕ)). v.items) w.pairs-is ∙ sym (append-nil before) ∙ ap (λ (b : Bool). before ++ made b) (sym (side ∙ ap not w.if-not-is_programme.false)))
    ]

pub returns : goal.returns
returns c =
    let h = c.args.self.now in
    let end : c.loop-k.k ≡ length (receipts_of h) =
    omega (arith, c.loop-k-test.false, c.loop-k.auto.k-end, c.len-k-end.ensures, h.receipts.ok, length-map h.receipts.items receipt_of) in
    rw end at c.loop-k.invariant
