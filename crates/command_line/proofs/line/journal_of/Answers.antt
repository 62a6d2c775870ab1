use Rattle.std.proofs.Common.{rules, refl, ◌≡◌, ◌∙◌, Bool, true, false, codes}
use Rattle.clap.specs.Words.{found_of, rows_of}
use Rattle.clap.proofs.WalkLemmas.{one_text-rows}
use Rattle.program_shell.specs.Flags.{IsUnflagged}
use Rattle.command_line.proofs.line.journal_of.Goals as goal

no_both : {b : Bool} → b ≡ true → b ≡ false → ⊥
no_both one other = search rules

pub returns-then-get_flag : goal.returns-then-get_flag
returns-then-get_flag c =
    let no : IsUnflagged (codes "journal-by-worker") (rows_of (found_of c.args.parsed_words.now)) → ⊥ =
    λ without. no_both c.if-get_flag.true (c.get_flag.ensures.other (one_text-rows (found_of c.args.parsed_words.now) (codes "journal-by-worker") ∙ without)) in
    record {
      by_worker = λ with. refl;
      plain = λ without with. absurd (no without);
      absent = λ without also. absurd (no without);
    }

pub returns-then-get_flag-2 : goal.returns-then-get_flag-2
returns-then-get_flag-2 c =
    let read = one_text-rows (found_of c.args.parsed_words.now) in
    record {
      by_worker = λ with. absurd (no_both (c.get_flag.ensures.value (read (codes "journal-by-worker") ∙ with)) c.if-get_flag.false);
      plain = λ without with. refl;
      absent = λ without also. absurd (no_both c.if-get_flag-2.true (c.get_flag-else-get_flag.ensures.other (read (codes "journal") ∙ also)));
    }

pub returns-else-get_flag-2 : goal.returns-else-get_flag-2
returns-else-get_flag-2 c =
    let read = one_text-rows (found_of c.args.parsed_words.now) in
    record {
      by_worker = λ with. absurd (no_both (c.get_flag.ensures.value (read (codes "journal-by-worker") ∙ with)) c.if-get_flag.false);
      plain = λ without with. absurd (no_both (c.get_flag-else-get_flag.ensures.value (read (codes "journal") ∙ with)) c.if-get_flag-2.false);
      absent = λ without also. refl;
    }
