use Rattle.std.proofs.Common.{◌≡◌, map, arith}
use Rattle.std.specs.Io.KnownBytes.{Appends}
use Rattle.records.specs.RowText.{row}
use Rattle.seal_text.proofs.TextFacts.{handed_over}
use Rattle.seal_text.proofs.grow.write_row.Goals as goal

pub returns : goal.returns
returns g c =
    let contents = g.W.Write.contents in
    let told : Appends (contents c.args.writer.now) (contents c.send.new.self.0) (row (map (λ f. f.now) c.args.fields.now)) =
    handed_over contents c.new-rows.result c.push.new.self c.args.writer.now c.send.new.self.0 c.in_ok-row_buffer.row_buffer.items (row (map (λ f. f.now) c.args.fields.now))
    c.new-rows.ensures.1 c.new-rows.ensures.2 c.in_ok-row_buffer.ensures.none c.in_ok-push.ensures c.in_ok-send.ensures in
    let same : c.push.new.self.writer.ghost_name ≡ c.new-rows.result.writer.ghost_name = c.in_ok-push.ensures.0 in
    grind (arith, same, told)
