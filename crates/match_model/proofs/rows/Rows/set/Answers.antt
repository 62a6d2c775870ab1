use Rattle.std.proofs.Common.{◌≡◌, ◌<◌, ◌+◌, ◌∙◌, ℕ, List, [], ◌∷◌, length, get_or, set, sym, ap, subst, arith}
use Rattle.std.proofs.lemmas.List.{drop-set-lt}
use Rattle.match_model.specs.Rows.{RowLists, parted, last_end, AreEnds}
use Rattle.match_model.proofs.Parted.{length-parted, get_or-parted, row_there, within_row, ends_at, end_before, parted-set}
use Rattle.match_model.proofs.rows.Rows.set.Goals as goal

-- item k of row i stands between the start and the end of the row
within : {T : Type 0} (v : RowLists T) (ends : List ℕ) (items : List T) (i k : ℕ) → parted 0 ends items ≡ v.rows → k < length (get_or v.rows i []) → (i < length ends) × (get_or (0 ∷ ends) i 0 + k < get_or ends i 0)
within v ends items i k same h =
    let here : k < length (get_or (parted 0 ends items) i []) = subst (λ rows. k < length (get_or rows i [])) (sym same) h in
    let many = length-parted 0 ends items in
    let there = row_there (parted 0 ends items) i k here in
    let l : i < length ends = omega arith in
    (l, within_row items (get_or (0 ∷ ends) i 0) (get_or ends i 0) k (subst (λ row. k < length row) (get_or-parted 0 ends items i l) here))

pub start_of-requires : goal.start_of-requires
start_of-requires g c =
    let w = within c.args.self.now c.self.inside.ends.items c.self.inside.items.items c.args.row c.args.place (ap (λ (v : RowLists _). v.rows) c.self.view_is) c.requires in
    omega (arith, w.0, c.deref.ensures.len)

-- the index of the item in the whole list, which is before the last row's end
at_is : (ends : List ℕ) (n i k s : ℕ) → AreEnds 0 ends n → i < length ends → get_or (0 ∷ ends) i 0 + k < get_or ends i 0 → s ≡ get_or (0 ∷ ends) i 0 → (s + k < last_end 0 ends) × (s + k < n)
at_is ends n i k s h l w e =
    let at = ends_at 0 ends n i h l in
    let before = end_before 0 ends n i h l in
    (omega (arith, before, w, e), omega (arith, at.1, w, e))

pub overflow_add-item_index : goal.overflow_add-item_index
overflow_add-item_index g c =
    let ends : List ℕ = c.self.inside.ends.items in
    let w = within c.args.self.now ends c.self.inside.items.items c.args.row c.args.place (ap (λ (v : RowLists _). v.rows) c.self.view_is) c.requires in
    let start : c.start_of.result ≡ get_or (0 ∷ ends) c.args.row 0 = c.start_of.ensures ∙ ap (λ (es : List ℕ). get_or (0 ∷ es) c.args.row 0) c.deref.ensures.value in
    let at = at_is ends (length c.self.inside.items.items) c.args.row c.args.place c.start_of.result c.self.invariant w.0 w.1 start in
    omega (arith, at.1, c.self.inside.items.ok)

pub index_mut-requires : goal.index_mut-requires
index_mut-requires g c =
    let ends : List ℕ = c.self.inside.ends.items in
    let w = within c.args.self.now ends c.self.inside.items.items c.args.row c.args.place (ap (λ (v : RowLists _). v.rows) c.self.view_is) c.requires in
    let start : c.start_of.result ≡ get_or (0 ∷ ends) c.args.row 0 = c.start_of.ensures ∙ ap (λ (es : List ℕ). get_or (0 ∷ es) c.args.row 0) c.deref.ensures.value in
    let at = at_is ends (length c.self.inside.items.items) c.args.row c.args.place c.start_of.result c.self.invariant w.0 w.1 start in
    omega (arith, at.1, c.self.inside.items.ok)

pub returns : goal.returns
returns g c =
    let ends : List ℕ = c.self.inside.ends.items in
    let items = c.self.inside.items.items in
    let w = within c.args.self.now ends items c.args.row c.args.place (ap (λ (v : RowLists _). v.rows) c.self.view_is) c.requires in
    let start : c.start_of.result ≡ get_or (0 ∷ ends) c.args.row 0 = c.start_of.ensures ∙ ap (λ (es : List ℕ). get_or (0 ∷ es) c.args.row 0) c.deref.ensures.value in
    let at = at_is ends (length items) c.args.row c.args.place c.start_of.result c.self.invariant w.0 w.1 start in
    let rows = ap (λ (n : ℕ). parted 0 ends (set items (n + c.args.place) c.args.item)) start ∙ parted-set 0 ends items c.args.row c.args.place c.args.item c.self.invariant w.0 w.1 in
    let left = drop-set-lt (last_end 0 ends) items (c.start_of.result + c.args.place) c.args.item at.0 in
    rw (← c.self.view_is) (λ i. record { rows = rows i; begun = left i })
