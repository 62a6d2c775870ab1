use Rattle.std.proofs.Common.{◌≡◌, ℕ, ◌+◌, List, arith, sym, ap, ◌∙◌, subst}
use Rattle.match_model.specs.Instance.{list_at}
use Rattle.std.specs.Prelude.{Option}
use Rattle.match_model.specs.Ranking.{place}
use Rattle.match_model.specs.Written.{Written}
use Rattle.match_reasons.specs.declared.taken.Taken.{Taken}
use Rattle.match_reasons.proofs.Tallies.{IsSoFar, IsSoFar-none, IsSoFar-more, IsSoFar-other, IsSoFar-all, few_so_far, with_member}
use Rattle.match_reasons.proofs.taken.places_taken.Goals.{then-is_member, else-is_member}
use Rattle.match_reasons.proofs.taken.places_taken.Goals as goal

pub add-requires : goal.add-requires
add-requires c =
    let few = few_so_far (list_at c.args.listed.now.written.programme_lists c.args.programme) c.args.sheet.now c.args.programme c.loop-r.r c.loop-r.taken.members c.loop-r.taken.last (omega arith) c.loop-r.invariant in
    omega arith

pub loop-r-preserved : goal.loop-r-preserved
loop-r-preserved c =
    let xs : List ℕ = (list_at c.args.listed.now.written.programme_lists c.args.programme) in
    let m : List (Option ℕ) = c.args.sheet.now in
    let p : ℕ = c.args.programme in
    let r : ℕ = c.loop-r.r in
    let into : (t : Taken) → c.if-is_member.taken ≡ t → IsSoFar xs m p (r + 1) t.members t.last → IsSoFar xs m p (r + 1) c.if-is_member.taken.members c.if-is_member.taken.last =
    λ t e h. subst (λ (z : Taken). IsSoFar xs m p (r + 1) z.members z.last) (sym e) h in
    elim c.if-is_member.branch [
      | then-is_member w ↦
          let stands = w.place_of_resident.ensures ∙ ap (λ (v : Written). place (list_at v.programme_lists p) r) c.lists-written_lists.ensures in
          into (with_member c.loop-r.taken (place xs r)) (w.taken-is ∙ w.add.ensures ∙ ap (with_member c.loop-r.taken) stands)
          (IsSoFar-more xs m p r c.loop-r.taken.members c.loop-r.taken.last (omega arith) c.loop-r.invariant (c.is_member.ensures.0 w.if-is_member.true))
      | else-is_member w ↦
          into c.loop-r.taken w.taken-is
          (IsSoFar-other xs m p r c.loop-r.taken.members c.loop-r.taken.last (omega arith) c.loop-r.invariant
          (λ k. let t = c.is_member.ensures.1 k in let f = w.if-is_member.false in cc))
    ]

pub returns : goal.returns
returns c = IsSoFar-all (list_at c.args.listed.now.written.programme_lists c.args.programme) c.args.sheet.now c.args.programme c.loop-r.r c.loop-r.taken.members c.loop-r.taken.last (omega arith) c.loop-r.invariant
