-- A receipt that is compared, as the program keeps it.
use Rattle.std.specs.Prelude.{◌≡◌, ◌<◌, ◌^◌, IfSome}
use Rattle.receipt_check.specs.Receipt.{Receipt}
use Rattle.receipt_check.specs.Shown.{content, fields_in}
use Rattle.receipt_check.specs.Pair.{last_place}
use Rattle.receipt_check.specs.declared.side.ComparedReceipt.{ComparedReceipt}

-- the content of the receipt that is kept
abbrev pub receipt_of : ComparedReceipt → Receipt
receipt_of s = content s.contents

-- the kept list and last place are those of the receipt
pub record IsSide (s : ComparedReceipt) : Type 0 where
  pub list_is : s.list ≡ fields_in s.contents.list.now
  pub last_is : s.last_member_position ≡ last_place (content s.contents)
  pub last_within : IfSome s.last_member_position (λ k. k < 2 ^ 63)
