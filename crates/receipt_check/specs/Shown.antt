-- The content of a receipt as the program keeps it.
use Rattle.std.specs.Prelude.{ℕ, List, map, option_map}
use denote.Ref.{Bor}
use Rattle.std.specs.Global.{Vec}
use Rattle.receipt_check.specs.Rows.{Cells}
use Rattle.receipt_check.specs.Receipt.{Receipt}
use Rattle.receipt_check.specs.declared.shown.ReceiptContents.{ReceiptContents}

-- the fields in these slices
abbrev pub fields_in : List (Bor (List ℕ)) → Cells
fields_in fields = map (λ (field : Bor (List ℕ)). field.now) fields

-- the rows in these vectors
abbrev pub rows_in : List (Vec (Bor (List ℕ))) → List Cells
rows_in rows = map (λ (row : Vec (Bor (List ℕ))). fields_in row.items) rows

-- the content of a receipt
abbrev pub content : ReceiptContents → Receipt
content s = record {
  kind = s.kind;
  name = s.name.now;
  count = s.member_count.now;
  index = s.member_index.now;
  opening = fields_in s.lists_opening.now;
  quota = s.quota.now;
  has_list = s.has_list;
  list = fields_in s.list.now;
  gone = s.withdrawn;
  named = fields_in s.name_pieces.now;
  second = fields_in s.result_opening.now;
  own = option_map (λ (own : Bor (List ℕ)). own.now) s.own_programme;
  after = rows_in s.detail_rows.now;
}
