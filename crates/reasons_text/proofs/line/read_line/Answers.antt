use Rattle.std.proofs.Common.{List, subst, ◌∙◌, codes}
use Rattle.clap.specs.Words.{Row, found_of}
use Rattle.clap.proofs.WalkLemmas.{first_value-rows, one_text-rows}
use Rattle.reasons_text.specs.Line.{GivesQuestion}
use Rattle.reasons_text.specs.declared.question.Question.{Question}
use Rattle.reasons_text.proofs.line.read_line.Goals as goal

pub returns-clause-question : goal.returns-clause-question
returns-clause-question g c =
    let matches = found_of c.in-Ok.parsed_words in
    let question : Question = record { asked = c.in-Some.asked; without_ranks = c.get_flag-2.result; key = c.get_str.result; sheet = c.get_str-2.result } in
    subst (λ (rows : List Row). GivesQuestion rows question) c.in-Ok.ensures.found (record {
      all = c.in-Some.ensures.all;
      one = c.in-Some.ensures.one;
      without_ranks = λ with. c.get_flag-2.ensures.value (one_text-rows matches (codes "without-ranks") ∙ with);
      with_ranks = λ without. c.get_flag-2.ensures.other (one_text-rows matches (codes "without-ranks") ∙ without);
      key = c.get_str.ensures ∙ first_value-rows matches (codes "key");
      sheet = c.get_str-2.ensures ∙ first_value-rows matches (codes "sheet");
    })
