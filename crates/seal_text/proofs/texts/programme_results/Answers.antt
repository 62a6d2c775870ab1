use Rattle.std.proofs.Common.{◌≡◌, ℕ, ◌<◌, ◌+◌, [], ◌++◌, List, Some, get_or, length, arith, sym, ap, ◌∙◌, subst}
use Rattle.std.specs.Global.{Vec}
use Rattle.std.proofs.lemmas.List.{get_or-map, length-map, map-set}
use Rattle.match_model.specs.Placement.{programme_of}
use Rattle.docket.specs.Contents.{Contents}
use Rattle.docket.specs.Texts.{mark_row}
use Rattle.match_model.specs.Instance.{Instance}
use Rattle.seal_text.specs.Grown.{texts_of}
use Rattle.seal_text.proofs.TextFacts.{AreSoFar, are_all, none_yet, with_member, with_nobody}
use Rattle.seal_text.proofs.texts.programme_results.Goals as goal

pub loop-r-init : goal.loop-r-init
loop-r-init c = none_yet c.args.case.now.docket c.args.case.now.sheet (texts_of c.in_ok-leaf_texts.leaf_texts.items) c.in_ok-leaf_texts.ensures

pub loop-r-preserved-in_default : goal.loop-r-preserved-in_default
loop-r-preserved-in_default c =
    with_nobody c.args.case.now.docket c.args.case.now.sheet c.loop-r.r (texts_of c.loop-r.leaf_texts.items) (sym c.place_of.ensures ∙ c.in_default.is) c.loop-r.invariant

pub loop-r-preserved : goal.loop-r-preserved
loop-r-preserved c =
    let d : Contents = c.args.case.now.docket in
    let r : ℕ = c.loop-r.r in
    let q : ℕ = c.programme.inside.0 in
    let old : List (Vec ℕ) = c.loop-r.leaf_texts.items in
    let text : Vec ℕ = c.put_member.new.leaf_text in
    let items : Vec ℕ → List ℕ = λ (v : Vec ℕ). v.items in
    let has : programme_of c.args.case.now.sheet r ≡ Some q = sym c.place_of.ensures ∙ c.in-Some.is ∙ ap Some (sym c.programme.view_is) in
    let within : q < length d.instance.quotas = (let member = c.requires.sheet_of.members r q has in let many = c.requires.whole.programmes in omega (arith, member, many)) in
    let below : q < length old = omega (arith, within, c.loop-r.invariant.each, length-map old items) in
    let before : get_or (texts_of old) q [] ≡ c.index_mut.result.now.items = get_or-map items old q c.index_mut.result.now [] below ∙ ap items (sym c.index_mut.ensures.value) in
    let row : mark_row c.docket-docket.result.now r (Some c.in-Some.programme) ≡ mark_row d r (Some q) =
    ap (λ (k : Contents). mark_row k r (Some c.in-Some.programme)) c.docket-docket.ensures ∙ ap (λ (p : ℕ). mark_row d r (Some p)) (sym c.programme.view_is) in
    let grew : text.items ≡ get_or (texts_of old) q [] ++ mark_row d r (Some q) =
    c.in_ok-put_member.ensures ∙ ap (λ (t : List ℕ). c.index_mut.result.now.items ++ t) row ∙ ap (λ (t : List ℕ). t ++ mark_row d r (Some q)) (sym before) in
    subst (AreSoFar d c.args.case.now.sheet (r + 1)) (sym (map-set items old q text))
    (with_member d c.args.case.now.sheet r q (texts_of old) text.items within has grew c.loop-r.invariant)

pub returns : goal.returns
returns c =
    let many = ap (λ (d : Contents). length d.instance.resident_lists) c.docket-docket.ensures in
    let own = ap (λ (i : Instance). length i.resident_lists) c.instance.ensures.instance in
    are_all c.args.case.now.docket c.args.case.now.sheet c.loop-r.r (texts_of c.loop-r.leaf_texts.items) (omega (arith, many, own)) c.loop-r.invariant
