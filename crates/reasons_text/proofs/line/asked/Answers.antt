use Rattle.std.proofs.Common.{rules, sym, ◌≡◌, ◌∙◌, Bool, Some, None, true, false, codes}
use Rattle.clap.specs.Words.{found_of}
use Rattle.clap.proofs.WalkLemmas.{first_value-rows, one_text-rows}
use Rattle.reasons_text.proofs.line.asked.Goals as goal

no_both : {b : Bool} → b ≡ true → b ≡ false → ⊥
no_both one other = search rules

not_none : {X : Type 0} {x : X} → Some x ≡ None → ⊥
not_none is = search rules

pub returns-then-is_about_all_residents-clause-one : goal.returns-then-is_about_all_residents-clause-one
returns-then-is_about_all_residents-clause-one c =
    λ without. absurd (no_both c.if-is_about_all_residents.true (c.get_flag-is_about_all_residents.ensures.other (one_text-rows (found_of c.args.parsed_words.now) (codes "all") ∙ without)))

pub returns-else-is_about_all_residents-clause-none : goal.returns-else-is_about_all_residents-clause-none
returns-else-is_about_all_residents-clause-none c = λ same.
    let matches = found_of c.args.parsed_words.now in
    let nobody = rw c.in_default.is at c.get_str.ensures in
    record {
      both = λ with. absurd (no_both (c.get_flag-is_about_all_residents.ensures.value (one_text-rows matches (codes "all") ∙ with)) c.if-is_about_all_residents.false);
      neither = λ without. sym (nobody ∙ first_value-rows matches (codes "resident"));
    }

pub returns-then-is_about_all_residents-2-clause-none : goal.returns-then-is_about_all_residents-2-clause-none
returns-then-is_about_all_residents-2-clause-none c = λ same.
    let matches = found_of c.args.parsed_words.now in
    record {
      both = λ with none. absurd (not_none (c.in-Some.ensures ∙ (first_value-rows matches (codes "resident") ∙ none)));
      neither = λ without. absurd (no_both c.if-is_about_all_residents-2.true (c.get_flag-is_about_all_residents.ensures.other (one_text-rows matches (codes "all") ∙ without)));
    }

pub returns-in-Some-get_str-clause-all : goal.returns-in-Some-get_str-clause-all
returns-in-Some-get_str-clause-all c =
    λ with. absurd (no_both (c.get_flag-is_about_all_residents.ensures.value (one_text-rows (found_of c.args.parsed_words.now) (codes "all") ∙ with)) c.if-is_about_all_residents-2.false)

pub returns-in-Some-get_str-clause-one : goal.returns-in-Some-get_str-clause-one
returns-in-Some-get_str-clause-one c = λ without.
    let matches = found_of c.args.parsed_words.now in (
      sym (c.in-Some.ensures ∙ first_value-rows matches (codes "resident")),
      sym (c.in-Some-get_str.ensures ∙ first_value-rows matches (codes "programme")),
    )

pub returns-in-None-clause-all : goal.returns-in-None-clause-all
returns-in-None-clause-all c =
    λ with. absurd (no_both (c.get_flag-is_about_all_residents.ensures.value (one_text-rows (found_of c.args.parsed_words.now) (codes "all") ∙ with)) c.if-is_about_all_residents-2.false)

pub returns-in-None-clause-one : goal.returns-in-None-clause-one
returns-in-None-clause-one c = λ without.
    let matches = found_of c.args.parsed_words.now in (
      sym (c.in-Some.ensures ∙ first_value-rows matches (codes "resident")),
      sym (c.in-None.ensures ∙ first_value-rows matches (codes "programme")),
    )
