use Rattle.std.proofs.Common.{◌≡◌, List, ℕ, ◌++◌, refl, arith}
use Rattle.std.specs.List.{flat_map}
use Rattle.records.specs.RowText.{Adds, Writes, row}
use Rattle.records.proofs.RowTextFacts.{adds_both}
use Rattle.reasons_text.specs.Table.{columns}
use Rattle.reasons_text.proofs.LineFacts.{handed_over}
use Rattle.reasons_text.proofs.answering.write_table.Goals as goal

pub returns : goal.returns
returns g c =
    let rows = c.in_ok-push_all_rows.ensures in
    let contents = g.W.Write.contents in
    let start = c.new-rows.result in
    let last = c.push_all_rows.new.rows in
    let second = flat_map (λ (t : List ℕ). t) rows.texts in
    let added : Adds contents start last (row columns ++ second) =
    adds_both contents start c.push_columns.new.rows last (row columns) second c.in_ok-push_columns.ensures rows.added in
    let told : Writes contents c.args.writer.now c.send.new.self.0 (row columns ++ second) =
    handed_over contents start last c.args.writer.now c.send.new.self.0 c.in_ok-row_buffer.row_buffer.items (row columns ++ second)
    c.new-rows.ensures.1 c.new-rows.ensures.2 c.in_ok-row_buffer.ensures.none added c.in_ok-send.ensures in
    let same : last.writer.ghost_name ≡ start.writer.ghost_name = added.0 in
    record {
      text = row columns ++ second;
      wanted = record { texts = rows.texts; rows = rows.rows; text_is = refl };
      appended = grind (arith, same, told);
    }
