use Rattle.std.proofs.Common.{◌≡◌, ◌<◌, ◌∙◌, ℕ, List, [], ◌∷◌, length, get_or, sym, ap, arith}
use Rattle.std.specs.List.{slice_range}
use Rattle.std.proofs.lemmas.List.{get_or_default}
use Rattle.match_model.specs.Rows.{RowLists}
use Rattle.match_model.proofs.Parted.{length-parted, get_or-parted, ends_at}
use Rattle.match_model.proofs.rows.Rows.row.Goals as goal

pub start_of-start-requires : goal.start_of-start-requires
start_of-start-requires g c =
    let rows = ap (λ (v : RowLists _). length v.rows) c.self.view_is in
    let many = length-parted 0 c.self.inside.ends.items c.self.inside.items.items in
    omega (arith, c.requires, rows, many, c.deref.ensures.len)

pub index-requires : goal.index-requires
index-requires g c =
    let rows = ap (λ (v : RowLists _). length v.rows) c.self.view_is in
    let many = length-parted 0 c.self.inside.ends.items c.self.inside.items.items in
    omega (arith, c.requires, rows, many)

pub part-requires-clause-order : goal.part-requires-clause-order
part-requires-clause-order g c =
    let ends : List ℕ = c.self.inside.ends.items in
    let rows = ap (λ (v : RowLists _). length v.rows) c.self.view_is in
    let many = length-parted 0 ends c.self.inside.items.items in
    let here : c.args.row_number < length ends = omega (arith, c.requires, rows, many) in
    let at = ends_at 0 ends (length c.self.inside.items.items) c.args.row_number c.self.invariant here in
    let start : c.start_of-start.result ≡ get_or (0 ∷ ends) c.args.row_number 0 = c.start_of-start.ensures ∙ ap (λ (es : List ℕ). get_or (0 ∷ es) c.args.row_number 0) c.deref.ensures.value in
    let end : c.index.result.now ≡ get_or ends c.args.row_number 0 = c.index.ensures ∙ sym (get_or_default ends c.args.row_number 0 c.index.result.now here) in
    omega (arith, at.0, start, end)

pub part-requires-clause-within : goal.part-requires-clause-within
part-requires-clause-within g c =
    let ends : List ℕ = c.self.inside.ends.items in
    let rows = ap (λ (v : RowLists _). length v.rows) c.self.view_is in
    let many = length-parted 0 ends c.self.inside.items.items in
    let here : c.args.row_number < length ends = omega (arith, c.requires, rows, many) in
    let at = ends_at 0 ends (length c.self.inside.items.items) c.args.row_number c.self.invariant here in
    let end : c.index.result.now ≡ get_or ends c.args.row_number 0 = c.index.ensures ∙ sym (get_or_default ends c.args.row_number 0 c.index.result.now here) in
    let all = ap length c.deref-2.ensures.value in
    omega (arith, at.1, end, all)

pub returns : goal.returns
returns g c =
    let ends : List ℕ = c.self.inside.ends.items in
    let items = c.self.inside.items.items in
    let place : ℕ = c.args.row_number in
    let rows = ap (λ (v : RowLists _). length v.rows) c.self.view_is in
    let many = length-parted 0 ends items in
    let here : place < length ends = omega (arith, c.requires, rows, many) in
    let start : c.start_of-start.result ≡ get_or (0 ∷ ends) place 0 = c.start_of-start.ensures ∙ ap (λ (es : List ℕ). get_or (0 ∷ es) place 0) c.deref.ensures.value in
    let end : c.index.result.now ≡ get_or ends place 0 = c.index.ensures ∙ sym (get_or_default ends place 0 c.index.result.now here) in
    c.part.ensures ∙ (λ i. slice_range (c.deref-2.ensures.value i) (start i) (end i)) ∙ sym (get_or-parted 0 ends items place here) ∙ ap (λ (v : RowLists _). get_or v.rows place []) c.self.view_is
