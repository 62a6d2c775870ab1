use Rattle.std.proofs.Common.{inl, inr, sym, ◌∙◌, codes}
use Rattle.clap.specs.Words.{found_of}
use Rattle.clap.proofs.WalkLemmas.{first_value-rows}
use Rattle.seal_text.proofs.compare_line.receipt_paths_named.Goals as goal

pub returns-in_default-clause-none : goal.returns-in_default-clause-none
returns-in_default-clause-none c = λ same. inl (sym (c.in_default.ensures ∙ first_value-rows (found_of c.args.matches.now) (codes "resident")))

pub returns-in-Some-get_str-clause-files : goal.returns-in-Some-get_str-clause-files
returns-in-Some-get_str-clause-files c =
    let matches = found_of c.args.matches.now in
    record {
      resident = sym (c.in-Some.ensures ∙ first_value-rows matches (codes "resident"));
      programme = sym (c.in-Some-get_str.ensures ∙ first_value-rows matches (codes "programme"));
    }

pub returns-in-None-clause-none : goal.returns-in-None-clause-none
returns-in-None-clause-none c = λ same. inr (sym (c.in-None.ensures ∙ first_value-rows (found_of c.args.matches.now) (codes "programme")))
