use Rattle.std.proofs.Common.{◌≡◌, ◌<◌, ◌+◌, ℕ, List, [], true, length, get_or, set, subst, sym, ap, ◌∙◌, arith, rules}
use Rattle.std.proofs.lemmas.List.{with_items_is}
use Rattle.match_model.specs.Ranking.{is_listed}
use Rattle.match_model.specs.Instance.{list_at}
use Rattle.match_model.specs.Owners.{AreBegun, AreCounts, AreStepped}
use Rattle.match_model.proofs.Entered.{is_listed_below, AreBegun-none, AreBegun-more, AreOwners-begun, counts_few, owners_room}
use Rattle.match_model.proofs.owners.owners_of_rows.Goals as goal

pub enter-requires-clause-room : goal.enter-requires-clause-room
enter-requires-clause-room c = λ x e.
    let i : ℕ = c.loop-owner.owner in
    let n : ℕ = length c.args.lists.now.rows in
    let all : List (List ℕ) = c.args.lists.now.rows in
    let listed : is_listed (list_at all i) x ≡ true = ap (λ (xs : List ℕ). is_listed xs x) (sym c.row.ensures) ∙ e in
    let within : x < c.args.member_count = is_listed_below c.args.member_count (list_at all i) x (c.requires.below i [] (omega (arith, c.loop-owner-test.true))) listed in
    let number = c.loop-owner.invariant.counted.number x within in
    let many = c.loop-owner.invariant.room x within in
    let here = ap (λ (ns : List ℕ). get_or ns x 0) c.deref_mut.ensures.value in
    let room = owners_room i n all x (omega (arith, c.loop-owner-test.true, c.len-owner-end.ensures)) listed in
    omega (arith, number, many, here, room)

pub enter-requires-clause-few : goal.enter-requires-clause-few
enter-requires-clause-few c = counts_few c.args.member_count c.loop-owner.owner c.args.lists.now.rows c.loop-owner.counts.items c.deref_mut.result.now c.deref_mut.ensures.value c.loop-owner.invariant.counted (omega (arith, c.loop-owner-test.true, c.requires.few))

pub loop-owner-init : goal.loop-owner-init
loop-owner-init c =
    AreBegun-none c.args.member_count (length c.args.lists.now.rows) (c.args.lists.now.rows) c.in_ok-rows.rows.rows c.deref.result.now c.in_ok-counts.counts.items
    (subst (AreCounts c.args.member_count (length c.args.lists.now.rows) (c.args.lists.now.rows)) (sym c.deref.ensures.value) c.in_ok-lengths.ensures) c.in_ok-rows.ensures (search rules)

pub loop-owner-preserved : goal.loop-owner-preserved
loop-owner-preserved c =
    let i : ℕ = c.loop-owner.owner in
    let n : ℕ = length c.args.lists.now.rows in
    let all : List (List ℕ) = c.args.lists.now.rows in
    let counts : List ℕ = c.loop-owner.counts.items in
    let step : ℕ → ℕ → ℕ = λ _ k. k + 1 in
    let counted : AreStepped 0 step (list_at all i) counts c.enter.new.counts =
    subst (λ (list : List ℕ). AreStepped 0 step list counts c.enter.new.counts) c.row.ensures
    (subst (λ (before : List ℕ). AreStepped 0 step c.row.result.now before c.enter.new.counts) c.deref_mut.ensures.value c.enter.ensures.counted) in
    let entered : AreStepped [] (λ (x : ℕ) (row : List ℕ). set row (get_or counts x 0) i) (list_at all i) c.loop-owner.rows.rows c.enter.new.rows.rows =
    subst (λ (list : List ℕ). AreStepped [] (λ (x : ℕ) (row : List ℕ). set row (get_or counts x 0) i) list c.loop-owner.rows.rows c.enter.new.rows.rows) c.row.ensures
    (subst (λ (ns : List ℕ). AreStepped [] (λ (x : ℕ) (row : List ℕ). set row (get_or ns x 0) i) c.row.result.now c.loop-owner.rows.rows c.enter.new.rows.rows) c.deref_mut.ensures.value c.enter.ensures.entered) in
    let many : length c.enter.new.counts ≡ c.loop-owner.counts.len = c.enter.ensures.counted.one_each ∙ c.deref_mut.ensures.len in
    subst (AreBegun c.args.member_count n (i + 1) all c.enter.new.rows.rows) (sym (with_items_is c.loop-owner.counts c.enter.new.counts many))
    (AreBegun-more c.args.member_count n i all c.loop-owner.rows.rows c.enter.new.rows.rows counts c.enter.new.counts (omega (arith, c.loop-owner-test.true, c.len-owner-end.ensures)) c.loop-owner.invariant entered counted)

pub returns : goal.returns
returns c =
    let n : ℕ = length c.args.lists.now.rows in
    let all : List (List ℕ) = c.args.lists.now.rows in
    let end : c.loop-owner.owner ≡ n = omega arith in
    AreOwners-begun c.args.member_count n all c.loop-owner.rows.rows c.loop-owner.counts.items (subst (λ (m : ℕ). AreBegun c.args.member_count n m all c.loop-owner.rows.rows c.loop-owner.counts.items) end c.loop-owner.invariant)
