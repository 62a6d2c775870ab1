use Rattle.std.proofs.Common.{◌≡◌, ◌++◌, ℕ, List, Option, length, sym, ap, ◌∙◌, append-nil, arith}
use Rattle.std.specs.Global.{Vec}
use Rattle.std.proofs.lemmas.List.{length-map}
use Rattle.receipt_check.specs.Folder.{choice_pair, file_named, receipt_at, with_programme}
use Rattle.receipt_check.specs.Held.{receipts_of}
use Rattle.receipt_check.specs.Receipt.{Receipt}
use Rattle.receipt_check.specs.Rows.{text_at}
use Rattle.receipt_check.specs.Shown.{fields_in}
use Rattle.receipt_check.specs.declared.kind.Kind.TheVariants.{Programme}
use Rattle.receipt_check.proofs.FolderFacts.{file_is, receipt_is}
use Rattle.receipt_check.proofs.PairFacts.{pairs_next}
use Rattle.receipt_check.proofs.folder.FolderReceipts.push_choices.Goals.{in-Some+in_ok-push-in-Some, in-None}
use Rattle.receipt_check.proofs.folder.FolderReceipts.push_choices.Goals as goal

pub loop-k-init : goal.loop-k-init
loop-k-init c = sym (append-nil c.args.pairs.now.items)

pub loop-k-preserved : goal.loop-k-preserved
loop-k-preserved c =
    let h = c.args.self.now in
    let rs = receipts_of h in
    let before = c.loop-k.pairs.items in
    let list = ap (λ (r : Receipt). r.list) (receipt_is h c.args.resident_file c.index.result.now c.requires.within c.index.ensures) in
    let name = c.field.ensures ∙ ap (λ names. text_at names c.loop-k.k) (sym list) in
    let file : c.file_number.result ≡ file_named Programme rs (text_at (receipt_at rs c.args.resident_file).list c.loop-k.k) =
    c.file_number.ensures ∙ file_is Programme rs h.programmes c.field.result.now c.requires.held.programmes_are ∙ ap (file_named Programme rs) name in
    elim c.match-file_number.branch [
      | in-Some+in_ok-push-in-Some w ↦ pairs_next (choice_pair rs c.args.resident_file) c.args.pairs.now.items before c.match-file_number.pairs.items c.loop-k.k c.loop-k.invariant
          (ap (λ (v : Vec (ℕ × ℕ)). v.items) w.pairs-is ∙ w.in_ok-push-in-Some.ensures.items ∙ ap (λ (found : Option ℕ). before ++ with_programme c.args.resident_file found) (sym w.in-Some.is ∙ file))
      | in-None w ↦ pairs_next (choice_pair rs c.args.resident_file) c.args.pairs.now.items before c.match-file_number.pairs.items c.loop-k.k c.loop-k.invariant
          (ap (λ (v : Vec (ℕ × ℕ)). v.items) w.pairs-is ∙ sym (append-nil before) ∙ ap (λ (found : Option ℕ). before ++ with_programme c.args.resident_file found) (sym w.in-None.is ∙ file))
    ]

pub returns : goal.returns
returns c =
    let h = c.args.self.now in
    let list = ap (λ (r : Receipt). length r.list) (receipt_is h c.args.resident_file c.index.result.now c.requires.within c.index.ensures) in
    let end : c.loop-k.k ≡ length (receipt_at (receipts_of h) c.args.resident_file).list =
    omega (arith, list, length-map c.index.result.now.contents.list.now (λ field. field.now), c.loop-k-test.false, c.loop-k.auto.k-end) in
    rw end at c.loop-k.invariant
