use Rattle.std.proofs.Common.{◌≡◌, ℕ, ◌+◌, List, Some, None, length, get_or, set, slice_get, arith, sym, ap, ◌∙◌, subst}
use Rattle.std.specs.Prelude.{Option}
use Rattle.std.specs.Global.{Vec}
use Rattle.std.proofs.lemmas.List.{length-set}
use Rattle.std.proofs.lemmas.Option.{slice_get_read, same_Some}
use Rattle.match_model.specs.Instance.{list_at}
use Rattle.match_model.specs.Placement.{IsMemberOf}
use Rattle.match_model.specs.Ranking.{place}
use Rattle.match_model.specs.Written.{Written}
use Rattle.match_reasons.specs.declared.taken.Taken.{Taken}
use Rattle.match_reasons.proofs.Tallies.{AreSoFar, AreSoFar-all, AreSoFar-more, AreSoFar-none, AreSoFar-other, few_so_far, with_member}
use Rattle.match_reasons.proofs.taken.all_places_taken.Goals.{then-programme-programmes, else-programme-programmes}
use Rattle.match_reasons.proofs.taken.all_places_taken.Goals as goal

pub loop-r-preserved-in_default : goal.loop-r-preserved-in_default
loop-r-preserved-in_default c =
    let none : get_or c.args.sheet.now c.loop-r.r None ≡ None = sym c.get.ensures ∙ c.in_default.is in
    record {
      each = c.loop-r.invariant.each;
      so_far = AreSoFar-other c.args.listed.now.written c.args.sheet.now c.loop-r.r c.loop-r.taken_places.items (omega arith) c.loop-r.invariant.so_far (λ p within is. cc);
    }

pub add-requires : goal.add-requires
add-requires c =
    let p : ℕ = c.programme.inside.0 in
    let t : Taken = c.index_mut.result.now in
    let read : slice_get c.loop-r.taken_places.items p ≡ Some t = slice_get_read c.loop-r.taken_places.items c.args.programmes p t (sym c.loop-r.invariant.each) (omega arith) c.index_mut.ensures.value in
    let few = few_so_far (list_at c.args.listed.now.written.programme_lists p) c.args.sheet.now p c.loop-r.r t.members t.last (omega arith) (c.loop-r.invariant.so_far p t read) in
    omega arith

pub loop-r-preserved : goal.loop-r-preserved
loop-r-preserved c =
    let written = c.args.listed.now.written in
    let m : List (Option ℕ) = c.args.sheet.now in
    let r : ℕ = c.loop-r.r in
    let p : ℕ = c.programme.inside.0 in
    let old : List Taken = c.loop-r.taken_places.items in
    let here : IsMemberOf m r p = sym c.get.ensures ∙ c.in-Some.is ∙ ap Some (sym c.programme.view_is) in
    elim c.if-programme-programmes.branch [
      | then-programme-programmes w ↦
          let t : Taken = w.index_mut.result.now in
          let at : slice_get old p ≡ Some t = slice_get_read old c.args.programmes p t (sym c.loop-r.invariant.each) (let l = w.if-programme-programmes.true in omega arith) w.index_mut.ensures.value in
          let stands : place (list_at written.programme_lists p) r ≡ w.place_of_resident.result =
          ap (λ z. place (list_at written.programme_lists z) r) c.programme.view_is ∙ sym (w.place_of_resident.ensures ∙ ap (λ (v : Written). place (list_at v.programme_lists c.in-Some.programme) r) c.lists-written_lists.ensures) in
          let item : with_member t (place (list_at written.programme_lists p) r) ≡ w.add.new.self = ap (with_member t) stands ∙ sym w.add.ensures in
          let is : set old p (with_member t (place (list_at written.programme_lists p) r)) ≡ c.if-programme-programmes.taken_places.items = ap (set old p) item ∙ sym (ap (λ (v : Vec Taken). v.items) w.taken_places-is) in
          record {
            each = ap (λ (ts : List Taken). length ts) (sym is) ∙ length-set old p (with_member t (place (list_at written.programme_lists p) r)) ∙ c.loop-r.invariant.each;
            so_far = subst (AreSoFar written m (r + 1)) is (AreSoFar-more written m r p old t (omega arith) c.loop-r.invariant.so_far at here);
          }
      | else-programme-programmes w ↦
          let same : old ≡ c.if-programme-programmes.taken_places.items = sym (ap (λ (v : Vec Taken). v.items) w.taken_places-is) in
          record {
            each = ap (λ (ts : List Taken). length ts) (sym same) ∙ c.loop-r.invariant.each;
            so_far = subst (AreSoFar written m (r + 1)) same
                (AreSoFar-other written m r old (omega arith) c.loop-r.invariant.so_far
                (λ q within is. let e : p ≡ q = same_Some p q (sym here ∙ is) in let out = w.if-programme-programmes.false in let each = c.loop-r.invariant.each in omega arith));
          }
    ]

pub returns-clause-taken : goal.returns-clause-taken
returns-clause-taken c = AreSoFar-all c.args.listed.now.written c.args.sheet.now c.loop-r.r c.loop-r.taken_places.items (omega arith) c.loop-r.invariant.so_far
