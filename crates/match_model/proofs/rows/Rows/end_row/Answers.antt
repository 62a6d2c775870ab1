use Rattle.std.proofs.Common.{◌≡◌, ◌∙◌, ℕ, List, [], ◌∷◌, ◌++◌, length, drop, sym, ap, subst, arith}
use Rattle.std.proofs.lemmas.List.{drop_all}
use Rattle.match_model.specs.Rows.{parted, last_end, AreEnds}
use Rattle.match_model.proofs.Parted.{AreEnds-push, last_end-push, parted-push}
use Rattle.match_model.proofs.rows.Rows.end_row.Goals as goal

pub invariant_of-self-2 : goal.invariant_of-self-2
invariant_of-self-2 g c =
    let items = c.self.inside.items.items in
    let ends : c.push.new.self.items ≡ c.self.inside.ends.items ++ length items ∷ [] = c.in_ok-push.ensures.items ∙ ap (λ (n : ℕ). c.self.inside.ends.items ++ n ∷ []) (omega (arith, c.len.ensures)) in
    subst (λ (es : List ℕ). AreEnds 0 es (length items)) (sym ends) (AreEnds-push 0 c.self.inside.ends.items (length items) c.self.invariant)

pub returns : goal.returns
returns g c =
    let items = c.self.inside.items.items in
    let old = c.self.inside.ends.items in
    let ends : c.push.new.self.items ≡ old ++ length items ∷ [] = c.in_ok-push.ensures.items ∙ ap (λ (n : ℕ). old ++ n ∷ []) (omega (arith, c.len.ensures)) in
    let rows = ap (λ (es : List ℕ). parted 0 es items) ends ∙ parted-push 0 old items c.self.invariant in
    let left = ap (λ (es : List ℕ). drop (last_end 0 es) items) ends ∙ ap (λ (n : ℕ). drop n items) (last_end-push 0 old (length items)) ∙ drop_all (length items) items (omega arith) in
    rw (← c.self.view_is) (λ i. record { rows = rows i; begun = left i })
