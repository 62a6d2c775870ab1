use Rattle.std.proofs.Common.{◌≡◌, ◌<◌, ◌≤◌, true, false, length, map, take, take_all, get_or, sym, ap, ◌∙◌, refl, arith, []}
use Rattle.std.specs.List.{list_any}
use Rattle.std.specs.Prelude.{bytes_eq}
use Rattle.std.proofs.lemmas.List.{length-map}
use Rattle.std.proofs.lemmas.List.Folds.{list_any_at, list_any_more}
use Rattle.docket_names.proofs.NameFacts.{is_declared-any}
use Rattle.receipt_check.specs.Receipt.{members}
use Rattle.receipt_check.specs.Rows.{text_at}
use Rattle.receipt_check.specs.Shown.{fields_in, rows_in}
use Rattle.receipt_check.specs.Side.{receipt_of}
use Rattle.receipt_check.proofs.PairFacts.{member_at, members_length}
use Rattle.receipt_check.proofs.side.ComparedReceipt.has.Goals as goal

pub loop-k-init : goal.loop-k-init
loop-k-init c = refl

pub loop-k-preserved : goal.loop-k-preserved
loop-k-preserved c =
    let names = members (receipt_of c.args.self.now) in
    let within : c.loop-k.k < length names = omega (arith, c.loop-k-test.true, members_length c.args.self.now.contents.detail_rows.now) in
    let name = c.cell.ensures ∙ sym (member_at (rows_in c.args.self.now.contents.detail_rows.now) c.loop-k.k) in
    let other : bytes_eq c.args.name.now (get_or names c.loop-k.k []) ≡ false = ap (bytes_eq c.args.name.now) (sym name) ∙ sym c.is.ensures ∙ c.if-is.false in
    list_any_more (bytes_eq c.args.name.now) names c.loop-k.k [] within ∙ rw (c.loop-k.invariant, other) refl

pub returns-then-is : goal.returns-then-is
returns-then-is c =
    let names = members (receipt_of c.args.self.now) in
    let within : c.loop-k.k < length names = omega (arith, c.loop-k-test.true, members_length c.args.self.now.contents.detail_rows.now) in
    let name = c.cell.ensures ∙ sym (member_at (rows_in c.args.self.now.contents.detail_rows.now) c.loop-k.k) in
    let same : bytes_eq c.args.name.now (get_or names c.loop-k.k []) ≡ true = ap (bytes_eq c.args.name.now) (sym name) ∙ sym c.is.ensures ∙ c.if-is.true in
    sym (is_declared-any names c.args.name.now ∙ list_any_at (bytes_eq c.args.name.now) names c.loop-k.k [] within same)

pub returns : goal.returns
returns c =
    let names = members (receipt_of c.args.self.now) in
    let past : length names ≤ c.loop-k.k = omega (arith, c.loop-k-test.false, members_length c.args.self.now.contents.detail_rows.now) in
    let whole = take_all c.loop-k.k names past in
    sym (is_declared-any names c.args.name.now ∙ (rw whole at c.loop-k.invariant))
