use Rattle.std.proofs.Common.{◌≡◌, ◌≤◌, ◌+◌, ℕ, Bool, List, [], length, arith, sym, ap, ◌∙◌, subst, ltb, true}
use Rattle.std.proofs.lemmas.Bool.{ltb-false}
use Rattle.std.specs.Prelude.{Option, ◌<◌, ◌⊎◌}
use Rattle.match_model.specs.declared.fault.ModelFault.{ModelFault}
use Rattle.match_model.specs.declared.fault.ModelFault.TheVariants.{Memory, TooManyPairs}
use Rattle.match_model.specs.Instance.{Instance, IsWellFormed, pair_count}
use Rattle.std.specs.List.{All, list_all, sum_by}
use Rattle.match_model.specs.Limits.{most_pairs, IsWithin}
use Rattle.match_model.proofs.LimitFacts.{programmes_bounded, residents_bounded}
use Rattle.match_model.specs.Owners.{AreChoices}
use Rattle.match_model.specs.Rows.{RowLists}
use Rattle.match_model.specs.declared.limits.TheConstants.{MAX_PAIRS}
use Rattle.match_model.specs.Draft.{Draft, AreLists, IsFinishFault, instance_of, lists_left, mutual_left, mutual_lists, has_no_repeats}
use Rattle.match_model.proofs.Kept.{IsWithin-instance_of, IsWellFormed-instance_of, mutual_in_turn}
use Rattle.match_model.proofs.Mutual.{left_below, left_distinct, length-mutual_lists, length-lists_left}
use Rattle.match_model.proofs.Entered.{mutual_below, mutual_distinct}
use Rattle.match_model.proofs.Gathered.{same_err, fault_of_most}
use Rattle.match_model.proofs.builder.InstanceBuilder.instance.Goals as goal

-- equal flags give the same mutual lists
same_mutual : (ms : List (Option (List ℕ))) (fs fs' : List Bool) (ts : List (Option (List ℕ))) (gs gs' : List Bool) → fs ≡ fs' → gs ≡ gs' → mutual_left ms fs ts gs ≡ mutual_left ms fs' ts gs'
same_mutual ms fs fs' ts gs gs' f g = λ i. mutual_left ms (f i) ts (g i)

-- the rows made for the programmes are the mutual lists of the lists that were read, and so of the builder's lists
programmes_made : (rows : RowLists ℕ) (ms : List (Option (List ℕ))) (fs fs' : List Bool) (ts : List (Option (List ℕ))) (gs gs' : List Bool) → rows ≡ record { rows = mutual_left ms fs ts gs; begun = [] }
    → fs ≡ fs' → gs ≡ gs' → rows.rows ≡ mutual_left ms fs' ts gs'
programmes_made rows ms fs fs' ts gs gs' made f g = ap (λ (v : RowLists ℕ). v.rows) made ∙ same_mutual ms fs fs' ts gs gs' f g

-- the rows made for the residents, from the programmes' rows, are the mutual lists of the builder's lists
residents_made : (rows programmes : RowLists ℕ) (ms : List (Option (List ℕ))) (fs : List Bool) (ts : List (Option (List ℕ))) (gs gs' : List Bool) → programmes.rows ≡ mutual_left ms fs ts gs'
    → rows ≡ record { rows = mutual_lists (lists_left ts gs) programmes.rows; begun = [] } → gs ≡ gs' → rows.rows ≡ mutual_left ts gs' ms fs
residents_made rows programmes ms fs ts gs gs' theirs made g =
    ap (λ (v : RowLists ℕ). v.rows) made ∙ (λ i. mutual_lists (lists_left ts (g i)) (theirs i)) ∙ mutual_in_turn (lists_left ts gs') (lists_left ms fs)

-- two instances are equal if all their parts are equal
same_instance : (qs qs' : List ℕ) (ps ps' rs rs' : List (List ℕ)) (fs fs' gs gs' : List Bool) → qs ≡ qs' → ps ≡ ps' → rs ≡ rs' → fs ≡ fs' → gs ≡ gs' →
    (let a : Instance = record { quotas = qs; programme_lists = ps; resident_lists = rs; programmes_withdrawn = fs; residents_withdrawn = gs } in let b : Instance = record { quotas = qs'; programme_lists = ps'; resident_lists = rs'; programmes_withdrawn = fs'; residents_withdrawn = gs' } in a ≡ b)
same_instance qs qs' ps ps' rs rs' fs fs' gs gs' e f g h k = λ i. record { quotas = e i; programme_lists = f i; resident_lists = g i; programmes_withdrawn = h i; residents_withdrawn = k i }

-- there are as many mutual lists of a side as members
many_mutual : (ms : List (Option (List ℕ))) (fs : List Bool) (ts : List (Option (List ℕ))) (gs : List Bool) → length (mutual_left ms fs ts gs) ≡ length ms
many_mutual ms fs ts gs = length-mutual_lists (lists_left ms fs) (lists_left ts gs) ∙ length-lists_left ms fs

many_rows : (ms : List (Option (List ℕ))) (fs : List Bool) (ts : List (Option (List ℕ))) (gs : List Bool) (rows : RowLists ℕ) → rows ≡ record { rows = mutual_left ms fs ts gs; begun = [] } → length rows.rows ≡ length ms
many_rows ms fs ts gs rows e = ap (λ (v : RowLists ℕ). length v.rows) e ∙ many_mutual ms fs ts gs

pub mutual_in_turn-requires-clause-few : goal.mutual_in_turn-requires-clause-few
mutual_in_turn-requires-clause-few c =
    let many = many_rows _ _ _ _ c.in_ok-programme_rows.programme_rows c.in_ok-programme_rows.ensures.lists in
    let each = c.self.invariant.one_list_each in
    omega (arith, many, each, c.self.invariant.programmes_within, programmes_bounded c.self.inside.limits)

pub mutual_in_turn-requires-clause-lists : goal.mutual_in_turn-requires-clause-lists
mutual_in_turn-requires-clause-lists c =
    let many = many_rows _ _ _ _ c.in_ok-programme_rows.programme_rows c.in_ok-programme_rows.ensures.lists in
    subst (AreLists c.self.inside.resident_lists) (sym (many ∙ c.self.invariant.one_list_each)) c.self.invariant.resident_lists

pub mutual_in_turn-requires-clause-below : goal.mutual_in_turn-requires-clause-below
mutual_in_turn-requires-clause-below c =
    let rows = ap (λ (v : RowLists ℕ). v.rows) c.in_ok-programme_rows.ensures.lists in
    let n : ℕ = length c.self.inside.resident_lists in
    subst (All (λ list. list_all (λ x. ltb x n) list ≡ true)) (sym rows)
    (mutual_below (lists_left c.self.inside.programme_lists c.deref.result.now) (lists_left c.self.inside.resident_lists c.deref-2.result.now) n (left_below c.self.inside.programme_lists c.deref.result.now n c.self.invariant.programme_lists))

pub mutual_in_turn-requires-clause-distinct : goal.mutual_in_turn-requires-clause-distinct
mutual_in_turn-requires-clause-distinct c =
    let rows = ap (λ (v : RowLists ℕ). v.rows) c.in_ok-programme_rows.ensures.lists in
    let n : ℕ = length c.self.inside.resident_lists in
    subst (All (λ list. has_no_repeats list ≡ true)) (sym rows)
    (mutual_distinct (lists_left c.self.inside.programme_lists c.deref.result.now) (lists_left c.self.inside.resident_lists c.deref-2.result.now) (left_distinct c.self.inside.programme_lists c.deref.result.now n c.self.invariant.programme_lists))

pub invariant_of-result : goal.invariant_of-result
invariant_of-result c =
    let programmes = programmes_made c.in_ok-programme_rows.programme_rows _ _ _ _ _ _ c.in_ok-programme_rows.ensures.lists c.deref.ensures.value c.deref-2.ensures.value in
    let residents = residents_made c.in_ok-resident_rows.resident_rows c.in_ok-programme_rows.programme_rows _ _ _ _ _ programmes c.in_ok-resident_rows.ensures.lists c.deref-3.ensures.value in
    let made_rs = ap (λ (v : RowLists ℕ). v.rows) c.in_ok-into_programmes.ensures in
    let ps = ap (λ (v : RowLists ℕ). v.rows) c.in_ok-into_residents.ensures ∙ programmes in
    let rs = made_rs ∙ residents in
    let parts = same_instance _ _ _ _ _ _ _ _ _ _ (c.in_ok-from_slice.ensures.items ∙ c.deref-4.ensures.value) ps rs (c.in_ok-from_slice-2.ensures.items ∙ c.deref-5.ensures.value) (c.in_ok-from_slice-3.ensures.items ∙ c.deref-6.ensures.value) in
    let d : Draft = record { limits = c.self.inside.limits; quotas = c.self.inside.quotas.items; programme_lists = c.self.inside.programme_lists; resident_lists = c.self.inside.resident_lists; programmes_withdrawn = c.self.inside.programmes_withdrawn.items; residents_withdrawn = c.self.inside.residents_withdrawn.items } in
    let same = same_mutual _ _ _ _ _ _ c.deref.ensures.value c.deref-2.ensures.value in
    let made : sum_by (length {A = ℕ}) (mutual_left _ _ _ _) ≡ pair_count (instance_of d) = ap (sum_by (length {A = ℕ})) same in
    let few : pair_count (instance_of d) ≤ MAX_PAIRS = (let most = ltb-false c.pairs.result _ c.in_ok-programme_rows.ensures.within in omega (arith, most, made, c.pairs.ensures.within)) in
    let all = ap (λ (v : RowLists ℕ). sum_by (length {A = ℕ}) v.rows + length v.begun) c.in_ok-programme_rows.ensures.lists in
    let counted : c.item_count-pairs.result ≡ pair_count (instance_of d) = omega (arith, c.item_count-pairs.ensures, all, made) in
    record {
      rankings = subst (λ (inst : Instance). IsWellFormed inst c.item_count-pairs.result) (sym parts) (IsWellFormed-instance_of d c.item_count-pairs.result c.self.invariant few counted);
      choices = subst (λ (lists : List (List ℕ)). AreChoices lists c.in_ok-resident_rows.choices.rows.rows) (sym made_rs) c.in_ok-resident_rows.ensures.choices;
    }

pub returns-clause-made : goal.returns-clause-made
returns-clause-made c =
    let programmes = programmes_made c.in_ok-programme_rows.programme_rows _ _ _ _ _ _ c.in_ok-programme_rows.ensures.lists c.deref.ensures.value c.deref-2.ensures.value in
    let residents = residents_made c.in_ok-resident_rows.resident_rows c.in_ok-programme_rows.programme_rows _ _ _ _ _ programmes c.in_ok-resident_rows.ensures.lists c.deref-3.ensures.value in
    let ps = ap (λ (v : RowLists ℕ). v.rows) c.in_ok-into_residents.ensures ∙ programmes in
    let rs = ap (λ (v : RowLists ℕ). v.rows) c.in_ok-into_programmes.ensures ∙ residents in
    let parts = same_instance _ _ _ _ _ _ _ _ _ _ (c.in_ok-from_slice.ensures.items ∙ c.deref-4.ensures.value) ps rs (c.in_ok-from_slice-2.ensures.items ∙ c.deref-5.ensures.value) (c.in_ok-from_slice-3.ensures.items ∙ c.deref-6.ensures.value) in
    rw (← c.self.view_is) parts

pub returns-in_err-programme_rows-clause-cause : goal.returns-in_err-programme_rows-clause-cause
returns-in_err-programme_rows-clause-cause c =
    let e : ModelFault = c.in_err-programme_rows.field-0.0 in
    let same = same_mutual _ _ _ _ _ _ c.deref.ensures.value c.deref-2.ensures.value in
    let pairs = ap (sum_by (length {A = ℕ})) same ∙ ap (λ (d : Draft). pair_count (instance_of d)) c.self.view_is in
    let most = c.pairs.ensures.number ∙ ap (λ (d : Draft). most_pairs d.limits) c.self.view_is in
    let over = subst (λ (n : ℕ). (e ≡ Memory) ⊎ ((e ≡ TooManyPairs) × (c.pairs.result < n))) pairs (fault_of_most c.pairs.result _ e c.in_err-programme_rows.ensures.cause) in
    let cause = subst (λ (m : ℕ). (e ≡ Memory) ⊎ ((e ≡ TooManyPairs) × (m < pair_count (instance_of c.args.self.now)))) most over in
    same_err c.from_residual.result e (IsFinishFault c.args.self.now) c.from_residual.ensures.1 cause

pub mutual-requires-clause-few : goal.mutual-requires-clause-few
mutual-requires-clause-few c = omega (arith, c.self.invariant.residents_within, residents_bounded c.self.inside.limits)

pub returns-clause-within : goal.returns-clause-within
returns-clause-within c =
    let d : Draft = record { limits = c.self.inside.limits; quotas = c.self.inside.quotas.items; programme_lists = c.self.inside.programme_lists; resident_lists = c.self.inside.resident_lists; programmes_withdrawn = c.self.inside.programmes_withdrawn.items; residents_withdrawn = c.self.inside.residents_withdrawn.items } in
    let same = same_mutual _ _ _ _ _ _ c.deref.ensures.value c.deref-2.ensures.value in
    let made : sum_by (length {A = ℕ}) (mutual_left _ _ _ _) ≡ pair_count (instance_of d) = ap (sum_by (length {A = ℕ})) same in
    let few : pair_count (instance_of d) ≤ most_pairs d.limits = (let most = ltb-false c.pairs.result _ c.in_ok-programme_rows.ensures.within in omega (arith, most, made, c.pairs.ensures.number)) in
    subst (λ (b : Draft). IsWithin b.limits (instance_of b)) c.self.view_is (IsWithin-instance_of d c.self.invariant few)
