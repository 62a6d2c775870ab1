-- The rule of a mailbox stays true after each kind of step.
use Rattle.std.proofs.Common.{◌≡◌, ◌≢◌, ℕ, zero, suc, ◌≤◌, true, false, true≢false, List, [], ◌∷◌, ◌++◌, length, set, sym, refl, ap, ◌∙◌, subst, ⊎_elim, append_assoc, length-append, arith}
use mathlib.Core.Option.{some, some-ne-none}
use lib.ListN.{get_elem?}
use Rattle.crossbeam_channel.specs.Fifo.{Pushes, Pops, Forks, Merges, Learns}
use Rattle.atomic_table.proofs.Lists.{at_set, at_snoc}
use Rattle.mailbox_rule.specs.declared.rule.Known.{Known}
use Rattle.mailbox_rule.specs.Rule.{known, Fits, IsInOrder}

module _ {M : Type 0} where
  -- the fact F is true of each end's number and of what is known of this end
  abbrev pub Each : (ℕ → Known M → Type 0) → List (Known M) → Type 0
  Each F views = (pass : ℕ) (h : Known M) → get_elem? views pass ≡ some h → F pass h

  -- after the knowledge of one end changes, F is true of all ends if it is true of this end and of the others
  each_set : (F : ℕ → Known M → Type 0) (views : List (Known M)) (pass : ℕ) (k : Known M) → F pass k → ((j : ℕ) (u : Known M) → j ≢ pass → get_elem? views j ≡ some u → F j u) → Each F (set views pass k)
  each_set F views pass k mine others j u e = ⊎_elim (λ (x : (j ≡ pass) × (k ≡ u)). subst (λ (y : ℕ × Known M). F y.0 y.1) (λ i. (sym x.0 i, x.1 i)) mine)
      (λ (x : (j ≢ pass) × (get_elem? views j ≡ some u)). others j u x.0 x.1) (at_set views pass j k u e)

  -- if a was added at the end of a list, and the new list has b at a number where the old list had not, the number is
  -- the old list's length
  at_end : (views : List (Known M)) (a b : Known M) (j : ℕ) → get_elem? views j ≢ some b → get_elem? (views ++ a ∷ []) j ≡ some b → j ≡ length views
  at_end [] a b zero n e = refl
  at_end [] a b (suc j) n e = absurd (some-ne-none b (sym e))
  at_end (x ∷ xs) a b zero n e = absurd (n e)
  at_end (x ∷ xs) a b (suc j) n e = ap suc (at_end xs a b j n e)

  -- the rule is true of a new channel, whose one end may put and take
  pub begins : IsInOrder {M = M} [] (known true true 0 [] [] ∷ [])
  begins = (0, 0, 0, [], [], refl, omega arith, each_set (Fits 0 0 0 [] []) (known {M = M} true true 0 [] [] ∷ []) 0 (known true true 0 [] []) ((λ _. (refl, refl, refl)), λ _. (refl, refl)) (λ j u other e. absurd (other (at_end [] _ u j (λ x. some-ne-none u (sym x)) e))))

  -- the rule stays true if the receiving end is split off, also with a larger capacity
  pub cuts : (n pass : ℕ) (h : Known M) → h.may_put ≡ true → h.may_take ≡ true → h.room ≤ n → Forks IsInOrder pass h (known true false n h.puts []) (known false true 0 [] h.taken)
  cuts n pass h a b grows items views kept at = let l : Known M = known true false n h.puts [] in let r : Known M = known false true 0 [] h.taken in let mine = kept.7 pass h at in let vs : List (Known M) = set views pass l in
      let Old : ℕ → Known M → Type 0 = λ j u. (u.may_put ≡ true → (j ≡ kept.0) × (u.room ≡ n) × (u.puts ≡ kept.3)) × (u.may_take ≢ true) in
      let old : Each Old vs = each_set Old views pass l ((λ _. ((mine.0 a).0, refl, (mine.0 a).2)), λ p. true≢false (sym p))
      (λ j u other e. ((λ p. absurd (other (((kept.7 j u e).0 p).0 ∙ sym (mine.0 a).0))), λ p. other (((kept.7 j u e).1 p).0 ∙ sym (mine.1 b).0))) in
      let room : h.room ≡ kept.2 = (mine.0 a).1 in let short : length items ≤ kept.2 = kept.6 in (
        kept.0,
        length vs,
        n,
        kept.3,
        kept.4,
        kept.5,
        omega arith,
        λ j u e. ⊎_elim (λ x. ((old j u x).0, λ p. absurd ((old j u x).1 p)))
            (λ (is : r ≡ u). ((λ p. absurd (true≢false (sym (ap (λ (y : Known M). y.may_put) is ∙ p)))), λ p. (at_end vs r u j (λ x. (old j u x).1 p) e, ap (λ (y : Known M). y.taken) (sym is) ∙ (mine.1 b).1))) (at_snoc vs r u j e),
      )

  -- the rule stays true if the receiving end is joined to the sending end and is no longer separate
  pub joins : (pass : ℕ) (h : Known M) (other : ℕ) (k : Known M) → h.may_put ≡ true → k.may_take ≡ true → Merges IsInOrder pass h other k (known true true h.room h.puts k.taken) (known false false 0 [] [])
  joins pass h other k a b items views kept at two at' = let both : Known M = known true true h.room h.puts k.taken in let mine = kept.7 pass h at in let vs : List (Known M) = set views pass both in
      let was : get_elem? views other ≡ some k = ⊎_elim (λ x. absurd (two x.0)) (λ x. x.1) (at_set views pass other both k at') in let theirs = (kept.7 other k was).1 b in
      let Now : ℕ → Known M → Type 0 = λ j u. j ≢ other → Fits kept.0 pass kept.2 kept.3 kept.4 j u in
      let now : Each Now vs = each_set Now views pass both (λ _. ((λ _. mine.0 a), λ _. (refl, theirs.1))) (λ j u _ e apart. ((kept.7 j u e).0, λ p. absurd (apart (((kept.7 j u e).1 p).0 ∙ sym theirs.0)))) in
      (kept.0, pass, kept.2, kept.3, kept.4, kept.5, kept.6, each_set (Fits kept.0 pass kept.2 kept.3 kept.4) vs other (known false false 0 [] []) ((λ p. absurd (true≢false (sym p))), λ p. absurd (true≢false (sym p))) (λ j u apart e. now j u e apart))

  -- the rule stays true if a message is put behind all waiting messages
  pub puts : (n pass : ℕ) (h : Known M) (m : M) → h.may_put ≡ true → h.room ≡ n → Pushes IsInOrder n pass h m (λ k. k ≡ known h.may_put h.may_take h.room (h.puts ++ m ∷ []) h.taken)
  puts n pass h m may is items views space kept at = let k : Known M = known h.may_put h.may_take h.room (h.puts ++ m ∷ []) h.taken in let mine = kept.7 pass h at in let more = kept.3 ++ m ∷ [] in
      let room : h.room ≡ kept.2 = (mine.0 may).1 in (
        k,
        (
          kept.0,
          kept.1,
          kept.2,
          more,
          kept.4,
          ap (λ l. l ++ m ∷ []) kept.5 ∙ append_assoc kept.4 items (m ∷ []),
          omega (arith, length-append items (m ∷ [])),
          each_set (Fits kept.0 kept.1 kept.2 more kept.4) views pass k ((λ _. ((mine.0 may).0, (mine.0 may).1, ap (λ l. l ++ m ∷ []) (mine.0 may).2)), mine.1)
              (λ j u other e. ((λ p. absurd (other (((kept.7 j u e).0 p).0 ∙ sym (mine.0 may).0))), (kept.7 j u e).1)),
        ),
        refl,
      )

  -- at most as many messages wait as the sending end has put
  pub fills : (pass : ℕ) (h : Known M) → h.may_put ≡ true → Learns IsInOrder pass h (λ items. length items ≤ length h.puts)
  fills pass h may items views kept at = let all : length h.puts ≡ length (kept.4 ++ items) = ap length (((kept.7 pass h at).0 may).2 ∙ kept.5) in omega (arith, length-append kept.4 items)

  -- the rule stays true if a message is taken, and this was in front of all waiting messages
  pub takes : (pass : ℕ) (h : Known M) → h.may_take ≡ true → Pops IsInOrder pass h (λ m k. k ≡ known h.may_put h.may_take h.room h.puts (h.taken ++ m ∷ []))
  takes pass h may m items views kept at = let k : Known M = known h.may_put h.may_take h.room h.puts (h.taken ++ m ∷ []) in let mine = kept.7 pass h at in let more = kept.4 ++ m ∷ [] in
      let short : length (m ∷ items) ≤ kept.2 = kept.6 in (
        k,
        (
          kept.0,
          kept.1,
          kept.2,
          kept.3,
          more,
          kept.5 ∙ sym (append_assoc kept.4 (m ∷ []) items),
          omega arith,
          each_set (Fits kept.0 kept.1 kept.2 kept.3 more) views pass k (mine.0, λ _. ((mine.1 may).0, ap (λ l. l ++ m ∷ []) (mine.1 may).1))
              (λ j u other e. ((kept.7 j u e).0, λ p. absurd (other (((kept.7 j u e).1 p).0 ∙ sym (mine.1 may).0)))),
        ),
        refl,
      )
