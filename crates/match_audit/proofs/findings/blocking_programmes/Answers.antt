use Rattle.std.proofs.Common.{◌≡◌, ◌+◌, ◌∷◌, [], ◌++◌, ℕ, List, take, drop, take-append-drop, ap, sym, ◌∙◌, subst}
use Rattle.std.specs.Prelude.{Option, ◌↔◌}
use Rattle.std.specs.Global.{Vec}
use Rattle.std.proofs.lemmas.List.{take_more, take_all}
use Rattle.match_model.specs.Ranking.{IsListed, HasNoRepeats}
use Rattle.match_model.specs.Instance.{list_of_resident}
use Rattle.match_model.specs.Placement.{programme_of}
use Rattle.settle_law.specs.Stable.{HasRoomFor, Prefers}
use Rattle.settle_law.proofs.Places.{IsListed-get_or}
use Rattle.match_model.proofs.Listed.{no_repeats_before}
use Rattle.match_audit.proofs.Kept.{Keeps, Keeps_more_yes, Keeps_more_no, IsStrictlyIncreasing-sorted, Contains-sorted}
use Rattle.match_audit.proofs.Blocking.{listed_by_resident, blocks_where}
use Rattle.match_audit.proofs.findings.blocking_programmes.Goals.{then-has_room_for+in_ok-push, else-has_room_for}
use Rattle.match_audit.proofs.findings.blocking_programmes.Goals as goal

pub has_room_for-requires-clause-member : goal.has_room_for-requires-clause-member
has_room_for-requires-clause-member c =
    let front : List ℕ = c.preferred-programme-items.result.now in
    let listed : IsListed front c.programme-item.result =
    subst (IsListed front) (sym c.programme-item.is) (IsListed-get_or front c.loop-programme.programme-index c.programme-item.result c.loop-programme-test.true) in
    listed_by_resident c.args.inst.now c.requires.instance c.args.resident c.programme-item.result ((c.preferred-programme-items.ensures.front c.programme-item.result).0 listed).0

pub loop-programme-preserved : goal.loop-programme-preserved
loop-programme-preserved c =
    let front : List ℕ = c.preferred-programme-items.result.now in
    let i : ℕ = c.loop-programme.programme-index in
    let more : take (i + 1) front ≡ take i front ++ c.programme-item.result ∷ [] =
    take_more front i c.programme-item.result c.loop-programme-test.true ∙ ap (λ x. take i front ++ x ∷ []) (sym c.programme-item.is) in
    let apart : HasNoRepeats (take i front ++ c.programme-item.result ∷ []) =
    subst HasNoRepeats more (no_repeats_before (take (i + 1) front) (drop (i + 1) front) (subst HasNoRepeats (sym (take-append-drop (i + 1) front)) c.preferred-programme-items.ensures.once)) in
    let room = c.has_room_for.ensures c.args.assignment.now c.requires.loads in
    rw more (elim c.if-has_room_for.branch [
      | then-has_room_for+in_ok-push w ↦
          rw (ap (λ (v : Vec ℕ). v.items) w.programmes-is ∙ w.in_ok-push.ensures.items)
          (Keeps_more_yes (λ p. HasRoomFor c.args.inst.now c.args.assignment.now p c.args.resident) (take i front) c.loop-programme.programmes.items c.programme-item.result
          c.loop-programme.invariant apart (room.0 w.if-has_room_for.true))
      | else-has_room_for w ↦
          rw (ap (λ (v : Vec ℕ). v.items) w.programmes-is)
          (Keeps_more_no (λ p. HasRoomFor c.args.inst.now c.args.assignment.now p c.args.resident) (take i front) c.loop-programme.programmes.items c.programme-item.result
          c.loop-programme.invariant (λ h. let t = room.1 h in let f = w.if-has_room_for.false in cc))
    ])

pub returns : goal.returns
returns c =
    let front : List ℕ = c.preferred-programme-items.result.now in
    let kept : List ℕ = c.loop-programme.programmes.items in
    let P : ℕ → Type 0 = λ p. HasRoomFor c.args.inst.now c.args.assignment.now p c.args.resident in
    let all : Keeps P front kept = subst (λ (xs : List ℕ). Keeps P xs kept) (take_all c.loop-programme.programme-index front c.loop-programme-test.false) c.loop-programme.invariant in
    let blocks = blocks_where c.args.inst.now c.requires.instance c.args.assignment.now c.args.resident in
    let listed : (p : ℕ) → IsListed front p ↔ (IsListed (list_of_resident c.args.inst.now c.args.resident) p × Prefers (list_of_resident c.args.inst.now c.args.resident) p (programme_of c.args.assignment.now c.args.resident)) =
    λ p. subst (λ (o : Option ℕ). IsListed front p ↔ (IsListed (list_of_resident c.args.inst.now c.args.resident) p × Prefers (list_of_resident c.args.inst.now c.args.resident) p o)) c.get.ensures (c.preferred-programme-items.ensures.front p) in (
      IsStrictlyIncreasing-sorted kept c.sort_unstable.new.self.items all.once c.sort_unstable.ensures.permutation c.sort_unstable.ensures.sorted,
      λ p.
          let has = Contains-sorted P front kept c.sort_unstable.new.self.items all c.sort_unstable.ensures.permutation p in (
            λ k. let h = has.0 k in (blocks p).0 ((listed p).0 h.0, h.1),
            λ b. let h = (blocks p).1 b in has.1 ((listed p).1 h.0, h.1),
          ),
    )
