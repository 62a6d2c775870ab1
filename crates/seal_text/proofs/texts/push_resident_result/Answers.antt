use Rattle.std.proofs.Common.{◌++◌, ◌∙◌, refl, sym, arith}
use Rattle.std.proofs.lemmas.Result.{on_ok_weaker}
use Rattle.docket.specs.Texts.{resident_row}
use Rattle.records.proofs.RowTextFacts.{adds_both}
use Rattle.seal_text.proofs.texts.push_resident_result.Goals as goal

pub returns : goal.returns
returns g c =
    let first = rw (c.docket.ensures, c.place_of.ensures) at c.in_ok-push_mark.ensures in
    on_ok_weaker c.push_rows_on.result (λ rows. record {
      text = resident_row c.args.case.now.docket c.args.case.now.sheet c.args.resident ++ rows.text;
      is = record { reasons = rows.text; rows = rows.rows; text_is = refl };
      added = adds_both g.W.Write.contents c.args.rows.now c.push_mark.new.rows c.push_rows_on.new.rows _ rows.text first rows.added;
    }) c.push_rows_on.ensures

pub push_mark-requires-clause-programme : goal.push_mark-requires-clause-programme
push_mark-requires-clause-programme g c = λ p e.
    let member = c.requires.case.sheet_of.members c.args.resident p (sym c.place_of.ensures ∙ e) in
    let many = c.requires.case.whole.programmes in
    rw c.docket.ensures (omega (arith, member, many))
