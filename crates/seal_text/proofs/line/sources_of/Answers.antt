use Rattle.std.proofs.Common.{sym, ◌∙◌, codes}
use Rattle.clap.specs.Words.{found_of}
use Rattle.clap.proofs.WalkLemmas.{first_value-rows}
use Rattle.seal_text.proofs.line.sources_of.Goals as goal

pub returns-in-Some-clause-files : goal.returns-in-Some-clause-files
returns-in-Some-clause-files c =
    let matches = found_of c.args.matches.now in
    record {
      secret = sym (c.in-Some.ensures ∙ first_value-rows matches (codes "secret"));
      sheet = sym (c.get_str-in-Some.ensures ∙ first_value-rows matches (codes "sheet"));
      key = sym (c.get_str-in-Some-2.ensures ∙ first_value-rows matches (codes "key"));
    }

pub returns-in-None-clause-none : goal.returns-in-None-clause-none
returns-in-None-clause-none c = λ same. sym (c.in-None.ensures ∙ first_value-rows (found_of c.args.matches.now) (codes "secret"))
