use Rattle.std.proofs.Common.{[], arith}
use Rattle.std.proofs.lemmas.List.{length-map}
use Rattle.receipt_check.specs.Shown.{fields_in}
use Rattle.receipt_check.proofs.Steps.{grows_none, grows_at, grown_all}
use Rattle.receipt_check.proofs.pair_words.put_pieces.Goals as goal

pub loop-k-init : goal.loop-k-init
loop-k-init c = grows_none c.args.sentence.now

pub loop-k-preserved : goal.loop-k-preserved
loop-k-preserved c =
    grows_at (λ piece. piece) c.args.sentence.now c.loop-k.sentence c.put.new.text (fields_in c.args.pieces.now) c.loop-k.k []
    (omega (arith, c.loop-k-test.true, length-map c.args.pieces.now (λ f. f.now))) c.loop-k.invariant
    (rw c.field.ensures at c.in_ok-put.ensures)

pub returns : goal.returns
returns c =
    grown_all (λ piece. piece) c.args.sentence.now c.loop-k.sentence (fields_in c.args.pieces.now) c.loop-k.k
    (omega (arith, c.loop-k-test.false, length-map c.args.pieces.now (λ f. f.now))) c.loop-k.invariant
