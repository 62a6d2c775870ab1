use Rattle.std.proofs.Common.{sym, ◌∙◌, codes}
use Rattle.clap.specs.Words.{found_of}
use Rattle.clap.proofs.WalkLemmas.{first_value-rows, one_text-rows}
use Rattle.audit_files.proofs.line.order_named.Goals as goal

pub returns : goal.returns
returns c =
    let matches = found_of c.args.matches.now in
    record {
      docket = sym (c.in-Some.ensures ∙ first_value-rows matches (codes "docket"));
      sheet = sym (c.in-Some-get_str.ensures ∙ first_value-rows matches (codes "sheet"));
      journal = sym (c.get_str-3.ensures ∙ first_value-rows matches (codes "journal"));
      facts = λ with. c.get_flag.ensures.value (one_text-rows matches (codes "facts") ∙ with);
      no_facts = λ without. c.get_flag.ensures.other (one_text-rows matches (codes "facts") ∙ without);
    }
