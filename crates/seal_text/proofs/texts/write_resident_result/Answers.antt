use Rattle.std.proofs.Common.{◌≡◌, arith}
use Rattle.std.specs.Io.KnownBytes.{Appends}
use Rattle.seal_text.proofs.TextFacts.{handed_over}
use Rattle.seal_text.proofs.texts.write_resident_result.Goals as goal

pub returns : goal.returns
returns g c =
    let made = c.in_ok-push_resident_result.ensures in
    let contents = g.W.Write.contents in
    let start = c.new-rows.result in
    let last = c.push_resident_result.new.rows in
    let told : Appends (contents c.args.writer.now) (contents c.send.new.self.0) made.text =
    handed_over contents start last c.args.writer.now c.send.new.self.0 c.in_ok-row_buffer.row_buffer.items made.text
    c.new-rows.ensures.1 c.new-rows.ensures.2 c.in_ok-row_buffer.ensures.none made.added c.in_ok-send.ensures in
    let same : last.writer.ghost_name ≡ start.writer.ghost_name = made.added.0 in
    record { text = made.text; wanted = made.is; appended = grind (arith, same, told) }
