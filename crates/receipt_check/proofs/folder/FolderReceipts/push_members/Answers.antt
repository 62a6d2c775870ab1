use Rattle.std.proofs.Common.{◌≡◌, ◌++◌, ◌∷◌, [], ℕ, List, Option, length, sym, ap, ◌∙◌, append-nil, arith, if◌then◌else◌}
use Rattle.std.specs.Global.{Vec}
use Rattle.std.proofs.lemmas.List.{length-map}
use Rattle.docket_names.specs.Texts.{is_declared}
use Rattle.receipt_check.specs.Folder.{file_named, member_pair, receipt_at, with_resident}
use Rattle.receipt_check.specs.Held.{receipts_of}
use Rattle.receipt_check.specs.Receipt.{Receipt, members}
use Rattle.receipt_check.specs.Rows.{text_at}
use Rattle.receipt_check.specs.Shown.{fields_in, rows_in}
use Rattle.receipt_check.specs.declared.kind.Kind.TheVariants.{Resident}
use Rattle.receipt_check.proofs.FolderFacts.{file_is, receipt_is}
use Rattle.receipt_check.proofs.PairFacts.{member_at, pairs_next}
use Rattle.receipt_check.proofs.folder.FolderReceipts.push_members.Goals.{in-Some+in_ok-push_unlisted-in-Some, in-None}
use Rattle.receipt_check.proofs.folder.FolderReceipts.push_members.Goals as goal

pub loop-k-init : goal.loop-k-init
loop-k-init c = sym (append-nil c.args.pairs.now.items)

pub loop-k-preserved : goal.loop-k-preserved
loop-k-preserved c =
    let h = c.args.self.now in
    let rs = receipts_of h in
    let before = c.loop-k.pairs.items in
    let p = c.args.programme_file in
    let is = receipt_is h p c.index.result.now c.requires.within c.index.ensures in
    let row = c.cell.ensures ∙ sym (member_at (rows_in c.index.result.now.contents.detail_rows.now) c.loop-k.k) in
    let name = row ∙ ap (λ (r : Receipt). text_at (members r) c.loop-k.k) (sym is) in
    let file : c.file_number.result ≡ file_named Resident rs (text_at (members (receipt_at rs p)) c.loop-k.k) =
    c.file_number.ensures ∙ file_is Resident rs h.residents c.cell.result.now c.requires.held.residents_are ∙ ap (file_named Resident rs) name in
    elim c.match-file_number.branch [
      | in-Some+in_ok-push_unlisted-in-Some w ↦ pairs_next (member_pair rs p) c.args.pairs.now.items before c.match-file_number.pairs.items c.loop-k.k c.loop-k.invariant
          (ap (λ (v : Vec (ℕ × ℕ)). v.items) w.pairs-is ∙ w.in_ok-push_unlisted-in-Some.ensures
          ∙ ap (λ (name : List ℕ). before ++ (if is_declared (receipt_at rs w.in-Some.resident_file).list name then [] else (w.in-Some.resident_file, p) ∷ [])) (ap (λ (r : Receipt). r.name) (sym is))
          ∙ ap (λ (found : Option ℕ). before ++ with_resident rs p found) (sym w.in-Some.is ∙ file))
      | in-None w ↦ pairs_next (member_pair rs p) c.args.pairs.now.items before c.match-file_number.pairs.items c.loop-k.k c.loop-k.invariant
          (ap (λ (v : Vec (ℕ × ℕ)). v.items) w.pairs-is ∙ sym (append-nil before) ∙ ap (λ (found : Option ℕ). before ++ with_resident rs p found) (sym w.in-None.is ∙ file))
    ]

pub returns : goal.returns
returns c =
    let h = c.args.self.now in
    let after = ap (λ (r : Receipt). length r.after) (receipt_is h c.args.programme_file c.index.result.now c.requires.within c.index.ensures) in
    let end : c.loop-k.k ≡ length (receipt_at (receipts_of h) c.args.programme_file).after =
    omega (arith, after, length-map c.index.result.now.contents.detail_rows.now (λ row. fields_in row.items), c.loop-k-test.false, c.loop-k.auto.k-end) in
    rw end at c.loop-k.invariant
