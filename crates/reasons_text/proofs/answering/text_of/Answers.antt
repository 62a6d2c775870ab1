use Rattle.std.proofs.Common.{subst}
use Rattle.docket.specs.Contents.{Contents}
use Rattle.reasons_text.specs.Keys.{IsKeyOf}
use Rattle.reasons_text.specs.Naming.{both_of}
use Rattle.reasons_text.specs.Texts.{AsksByDocket}
use Rattle.reasons_text.specs.Told.{IsTold}
use Rattle.reasons_text.proofs.AskedFacts.{asked_keyless}
use Rattle.reasons_text.proofs.answering.text_of.Goals as goal

pub returns-clause-text : goal.returns-clause-text
returns-clause-text c =
    let told = c.in_ok-whom.whom in
    record {
      names = _;
      names_are = record {
        docket = c.docket-docket.ensures;
        keyless = c.in_ok-key.ensures.none;
        keyed = λ bytes is. subst (λ (d : Contents). IsKeyOf d bytes (both_of c.in_ok-key.key)) c.docket-docket.ensures (rw is at c.in_ok-key.ensures.key);
      };
      told = told;
      member = subst (λ (d : Contents). IsTold d.instance told) c.docket-docket.ensures c.in_ok-whom.ensures.member;
      asks = c.in_ok-whom.ensures.asks;
      asks_keyless = λ none.
          subst (λ (d : Contents). AsksByDocket d c.args.asked told) c.docket-docket.ensures
          (asked_keyless _ c.args.asked told (c.in_ok-key.ensures.none none) c.in_ok-whom.ensures.asks);
      text_is = c.in_ok-answer_text.ensures;
    }
