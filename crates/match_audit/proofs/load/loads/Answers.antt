use Rattle.std.proofs.Common.{◌≡◌, ℕ, ◌+◌, ◌∷◌, [], ◌++◌, List, Some, None, length, take, get_or, set, arith, sym, ap, ◌∙◌, subst, slice_get}
use Rattle.std.specs.Prelude.{Option}
use Rattle.std.proofs.lemmas.List.{take_more, length-take-le}
use Rattle.std.proofs.lemmas.Option.{slice_get_read, same_Some}
use Rattle.match_audit.specs.declared.load.Load.{Load}
use Rattle.std.specs.Global.{Vec}
use Rattle.match_model.specs.Ranking.{place}
use Rattle.match_model.specs.Instance.{list_of_programme}
use Rattle.match_audit.specs.Loads.{AreLoads}
use Rattle.match_audit.proofs.Loads.{AreLoads-other, AreLoads-more, loaded, member_count-take}
use Rattle.match_audit.proofs.load.loads.Goals.{then-programme-programmes, else-programme-programmes}
use Rattle.match_audit.proofs.load.loads.Goals as goal

pub loop-r-preserved-in_default : goal.loop-r-preserved-in_default
loop-r-preserved-in_default c =
    let m : List (Option ℕ) = c.args.assignment.now in
    let front = take_more m c.loop-r.r None (omega arith) in
    let none : get_or m c.loop-r.r None ≡ None = sym c.get.ensures ∙ c.in_default.is in
    record {
      loads = subst (λ (z : List (Option ℕ)). AreLoads c.args.inst.now z c.loop-r.loads.items) (sym front)
          (AreLoads-other c.args.inst.now (take c.loop-r.r m) (get_or m c.loop-r.r None) c.loop-r.loads.items c.loop-r.invariant.loads (λ p is e. cc));
      programmes = c.loop-r.invariant.programmes;
    }

pub add-requires : goal.add-requires
add-requires c =
    let p : ℕ = c.programme.inside.0 in
    let read : slice_get c.loop-r.loads.items p ≡ Some c.index_mut.result.now = slice_get_read c.loop-r.loads.items (length c.args.inst.now.quotas) p c.index_mut.result.now (sym c.loop-r.invariant.loads.one_each) (let e = c.loop-r.invariant.programmes in omega arith) c.index_mut.ensures.value in
    let load = (c.loop-r.invariant.loads.each p c.index_mut.result.now read).members in
    let few = member_count-take c.args.assignment.now c.loop-r.r p (omega arith) in
    omega arith

pub loop-r-preserved : goal.loop-r-preserved
loop-r-preserved c =
    let m : List (Option ℕ) = c.args.assignment.now in
    let r : ℕ = c.loop-r.r in
    let p : ℕ = c.programme.inside.0 in
    let old : List Load = c.loop-r.loads.items in
    let front = take_more m r None (omega arith) in
    let here : get_or m r None ≡ Some p = sym c.get.ensures ∙ c.in-Some.is ∙ ap Some (sym c.programme.view_is) in
    let long : length (take r m) ≡ r = length-take-le r m (omega arith) in
    let into : (new : List Load) → AreLoads c.args.inst.now (take r m ++ get_or m r None ∷ []) new → AreLoads c.args.inst.now (take (r + 1) m) new =
    λ new h. subst (λ (z : List (Option ℕ)). AreLoads c.args.inst.now z new) (sym front) h in
    elim c.if-programme-programmes.branch [
      | then-programme-programmes w ↦
          let at : slice_get old p ≡ Some w.index_mut.result.now =
          slice_get_read old (length c.args.inst.now.quotas) p w.index_mut.result.now (sym c.loop-r.invariant.loads.one_each) (let e = c.loop-r.invariant.programmes in let l = w.if-programme-programmes.true in omega arith) w.index_mut.ensures.value in
          let more = AreLoads-more c.args.inst.now (take r m) p old w.index_mut.result.now c.loop-r.invariant.loads at in
          let item : loaded w.index_mut.result.now (place (list_of_programme c.args.inst.now p) (length (take r m))) ≡ w.add.new.self =
          ap (λ z. loaded w.index_mut.result.now (place (list_of_programme c.args.inst.now p) z)) long
          ∙ ap (loaded w.index_mut.result.now) (ap (λ z. place (list_of_programme c.args.inst.now z) r) c.programme.view_is ∙ sym w.rank_or_length.ensures) ∙ sym w.add.ensures in
          let is : set old p (loaded w.index_mut.result.now (place (list_of_programme c.args.inst.now p) (length (take r m)))) ≡ c.if-programme-programmes.loads.items =
          ap (set old p) item ∙ sym (ap (λ (v : Vec Load). v.items) w.loads-is) in
          record {
            loads = into c.if-programme-programmes.loads.items
                (subst (λ (z : List Load). AreLoads c.args.inst.now (take r m ++ get_or m r None ∷ []) z) is
                (subst (λ z. AreLoads c.args.inst.now (take r m ++ z ∷ []) (set old p (loaded w.index_mut.result.now (place (list_of_programme c.args.inst.now p) (length (take r m)))))) (sym here) more));
            programmes = c.loop-r.invariant.programmes;
          }
      | else-programme-programmes w ↦ record {
        loads = into c.if-programme-programmes.loads.items
            (subst (λ (z : List Load). AreLoads c.args.inst.now (take r m ++ get_or m r None ∷ []) z) (sym (ap (λ (v : Vec Load). v.items) w.loads-is))
            (AreLoads-other c.args.inst.now (take r m) (get_or m r None) old c.loop-r.invariant.loads
            (λ q is e. let same : p ≡ q = same_Some p q (sym here ∙ e) in
            let out = w.if-programme-programmes.false in let many = c.loop-r.invariant.programmes in omega arith)));
        programmes = c.loop-r.invariant.programmes;
      }
    ]
