use Rattle.std.proofs.Common.{rules, refl, sym, ap, IfErr, IfOk, Option, Some, None, Result, ◌≡◌, ◌∙◌, codes}
use Rattle.std.specs.Option.{ok_or}
use Rattle.std.proofs.lemmas.Result.{IfErr-weaker, IfOk-weaker}
use Rattle.clap.specs.Words.{found_of, rows_of}
use Rattle.clap.proofs.WalkLemmas.{first_value-rows}
use Rattle.docket.specs.Words.{capacity_of}
use Rattle.command_line.proofs.line.room_of.Goals as goal

some_of : {X E : Type 0} (given : Option X) (e : E) → IfOk (ok_or given e) (λ x. given ≡ Some x)
some_of (Some x) e = refl
some_of None e = search rules

gives : {X E : Type 0} (given : Option X) (e : E) (result : Result X E) → result ≡ ok_or given e → IfOk result (λ x. given ≡ Some x)
gives given e result is = rw is (some_of given e)

none_of : {X E : Type 0} (given : Option X) (e : E) → IfErr (ok_or given e) (λ fault. given ≡ None)
none_of (Some x) e = search rules
none_of None e = refl

gives_none : {X E : Type 0} (given : Option X) (e : E) (result : Result X E) → result ≡ ok_or given e → IfErr result (λ fault. given ≡ None)
gives_none given e result is = rw is (none_of given e)

same : {X : Type 0} {x y : X} → Some x ≡ Some y → x ≡ y
same is = search rules

not_none : {X : Type 0} {x : X} → None ≡ Some x → ⊥
not_none is = search rules

pub returns-in-Some-clause-given : goal.returns-in-Some-clause-given
returns-in-Some-clause-given c =
    let read = first_value-rows (found_of c.args.parsed_words.now) (codes "capacity") in
    IfOk-weaker c.ok_or.result _ _ (λ room is text given.
    ap capacity_of (sym (same (c.in-Some.ensures ∙ (read ∙ given))) ∙ sym c.as_bytes.ensures.value) ∙ (sym c.capacity_of.ensures.written ∙ is))
    (gives c.capacity_of.result _ c.ok_or.result c.ok_or.ensures.value)

pub returns-in-Some-clause-bad : goal.returns-in-Some-clause-bad
returns-in-Some-clause-bad c =
    IfErr-weaker c.ok_or.result _ _ (λ fault is. record {
      rows = rows_of (found_of c.args.parsed_words.now);
      command = refl;
      text = c.in-Some.capacity_text.now;
      room = sym (c.in-Some.ensures ∙ first_value-rows (found_of c.args.parsed_words.now) (codes "capacity"));
      bad = ap capacity_of (sym c.as_bytes.ensures.value) ∙ (sym c.capacity_of.ensures.written ∙ is);
    }) (gives_none c.capacity_of.result _ c.ok_or.result c.ok_or.ensures.value)

pub returns-in-None-clause-given : goal.returns-in-None-clause-given
returns-in-None-clause-given c text given =
    absurd (not_none (c.in-None.ensures ∙ (first_value-rows (found_of c.args.parsed_words.now) (codes "capacity") ∙ given)))
