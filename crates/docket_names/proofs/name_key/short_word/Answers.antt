use Rattle.std.proofs.Common.{◌≡◌, ◌∙◌, sym, rules, arith, length}
use Rattle.std.proofs.lemmas.List.{get_or_past}
use Rattle.docket_names.proofs.NameKeyFacts.{no_bytes, filled_eight}
use Rattle.docket_names.proofs.name_key.short_word.Goals as goal

pub returns-in-8 : goal.returns-in-8
returns-in-8 c = c.word_of.ensures ∙ sym (filled_eight c.args.text.now c.requires)

pub returns-in-7 : goal.returns-in-7
returns-in-7 c =
    let size : length c.args.text.now ≡ 7 = search (rules, c.in-7.is) in
    c.word_of-in-7.ensures ∙ sym (rw (get_or_past c.args.text.now 7 0 (omega (arith, size))) at (filled_eight c.args.text.now c.requires))

pub returns-in-6 : goal.returns-in-6
returns-in-6 c =
    let size : length c.args.text.now ≡ 6 = search (rules, c.in-6.is) in
    c.word_of-in-6.ensures ∙ sym (rw (get_or_past c.args.text.now 6 0 (omega (arith, size)), get_or_past c.args.text.now 7 0 (omega (arith, size))) at (filled_eight c.args.text.now c.requires))

pub returns-in-5 : goal.returns-in-5
returns-in-5 c =
    let size : length c.args.text.now ≡ 5 = search (rules, c.in-5.is) in
    c.word_of-in-5.ensures ∙ sym (rw (get_or_past c.args.text.now 5 0 (omega (arith, size)), get_or_past c.args.text.now 6 0 (omega (arith, size)), get_or_past c.args.text.now 7 0 (omega (arith, size))) at (filled_eight c.args.text.now c.requires))

pub returns-in-4 : goal.returns-in-4
returns-in-4 c =
    let size : length c.args.text.now ≡ 4 = search (rules, c.in-4.is) in
    c.word_of-in-4.ensures ∙ sym (rw (get_or_past c.args.text.now 4 0 (omega (arith, size)), get_or_past c.args.text.now 5 0 (omega (arith, size)), get_or_past c.args.text.now 6 0 (omega (arith, size)), get_or_past c.args.text.now 7 0 (omega (arith, size))) at (filled_eight c.args.text.now c.requires))

pub returns-in-3 : goal.returns-in-3
returns-in-3 c =
    let size : length c.args.text.now ≡ 3 = search (rules, c.in-3.is) in
    c.word_of-in-3.ensures ∙ sym (rw (get_or_past c.args.text.now 3 0 (omega (arith, size)), get_or_past c.args.text.now 4 0 (omega (arith, size)), get_or_past c.args.text.now 5 0 (omega (arith, size)), get_or_past c.args.text.now 6 0 (omega (arith, size)), get_or_past c.args.text.now 7 0 (omega (arith, size))) at (filled_eight c.args.text.now c.requires))

pub returns-in-2 : goal.returns-in-2
returns-in-2 c =
    let size : length c.args.text.now ≡ 2 = search (rules, c.in-2.is) in
    c.word_of-in-2.ensures ∙ sym (rw (get_or_past c.args.text.now 2 0 (omega (arith, size)), get_or_past c.args.text.now 3 0 (omega (arith, size)), get_or_past c.args.text.now 4 0 (omega (arith, size)), get_or_past c.args.text.now 5 0 (omega (arith, size)), get_or_past c.args.text.now 6 0 (omega (arith, size)), get_or_past c.args.text.now 7 0 (omega (arith, size))) at (filled_eight c.args.text.now c.requires))

pub returns-in-1 : goal.returns-in-1
returns-in-1 c =
    let size : length c.args.text.now ≡ 1 = search (rules, c.in-1.is) in
    c.word_of-in-1.ensures ∙ sym (rw (get_or_past c.args.text.now 1 0 (omega (arith, size)), get_or_past c.args.text.now 2 0 (omega (arith, size)), get_or_past c.args.text.now 3 0 (omega (arith, size)), get_or_past c.args.text.now 4 0 (omega (arith, size)), get_or_past c.args.text.now 5 0 (omega (arith, size)), get_or_past c.args.text.now 6 0 (omega (arith, size)), get_or_past c.args.text.now 7 0 (omega (arith, size))) at (filled_eight c.args.text.now c.requires))

pub returns-in_default : goal.returns-in_default
returns-in_default c =
    let size : length c.args.text.now ≡ 0 = omega (arith, c.requires) in
    c.word_of-in_default.ensures ∙ sym (no_bytes c.args.text.now size)
