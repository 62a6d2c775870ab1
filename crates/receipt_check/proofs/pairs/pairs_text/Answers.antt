use Rattle.std.proofs.Common.{◌≡◌, ◌++◌, List, ℕ, ap, ◌∙◌}
use Rattle.receipt_check.specs.Folder.{folder_text, is_stable}
use Rattle.receipt_check.specs.Held.{receipts_of}
use Rattle.receipt_check.proofs.pairs.pairs_text.Goals as goal

pub returns : goal.returns
returns c =
    let members = c.args.published_lists.now.members in (
      c.in_ok-receipts.ensures.0,
      c.in_ok-stable.ensures.text ∙ ap (λ (before : List ℕ). before ++ folder_text members (receipts_of c.in_ok-receipts.receipts)) c.new-text.ensures.items ∙ ap (folder_text members) c.in_ok-receipts.ensures.1,
      c.in_ok-stable.ensures.stable ∙ ap (is_stable members) c.in_ok-receipts.ensures.1,
    )
