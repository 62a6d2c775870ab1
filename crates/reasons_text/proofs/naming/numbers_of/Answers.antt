use Rattle.std.proofs.Common.{◌∙◌}
use Rattle.reasons_text.specs.Numbers.{number_in}
use Rattle.reasons_text.proofs.NumberFacts.{number_more, numbers_none}
use Rattle.reasons_text.proofs.naming.numbers_of.Goals as goal

pub loop-number-init : goal.loop-number-init
loop-number-init c name = rw c.with_hasher-numbers.ensures.empty (numbers_none c.args.docket.now c.args.side name)

pub loop-number-preserved : goal.loop-number-preserved
loop-number-preserved c =
    number_more c.args.docket.now c.args.side c.loop-number.number c.as_bytes-name.result.now (number_in c.loop-number.numbers) (number_in c.put_first.new.numbers)
    (c.as_bytes-name.ensures.value ∙ c.docket_name.ensures) c.loop-number.invariant c.in_ok-put_first.ensures
