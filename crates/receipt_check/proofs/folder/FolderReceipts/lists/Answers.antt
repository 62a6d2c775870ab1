use Rattle.std.proofs.Common.{◌≡◌, ◌≤◌, ◌<◌, length, nat_lt, true, false, sym, ap, ◌∙◌, arith, inl, inr}
use Rattle.std.proofs.lemmas.Bool.{cases_lt, lt-ltb}
use Rattle.receipt_check.proofs.FolderFacts.{lists_nobody}
use Rattle.receipt_check.proofs.folder.FolderReceipts.lists.Goals as goal

pub returns-in-None : goal.returns-in-None
returns-in-None c =
    let sides = c.args.self.now.receipts.items in
    let out : false ≡ nat_lt c.args.resident_file (length sides) = rw c.deref.ensures.value at c.in-None.ensures.lookup.0 in
    let past : length sides ≤ c.args.resident_file = elim (cases_lt c.args.resident_file (length sides)) [
      | inl within ↦ absurd (cc (out ∙ lt-ltb c.args.resident_file (length sides) within))
      | inr past ↦ past
    ] in
    sym (lists_nobody c.args.self.now c.args.resident_file c.args.name.now past)
