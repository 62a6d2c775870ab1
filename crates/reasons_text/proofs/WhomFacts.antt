-- The answer to a question, once it is known whom its texts mean.
use Rattle.std.proofs.Common.{◌≡◌, ◌≤◌, ◌<◌, ℕ, Bool, true, false, List, refl, arith, rules}
use Rattle.reasons_text.specs.Naming.{IsMeant, MeansAlone, MeansNoMember, MeansTwo, Naming, means, member_count}
use Rattle.reasons_text.specs.declared.names.Meant.TheVariants.{Nobody, One, Several}
use Rattle.reasons_text.specs.declared.side.Side.{Side}

no_both : {b : Bool} → b ≡ true → b ≡ false → ⊥
no_both one other = search rules

module _ (names : Naming) (side : Side) (text : List ℕ) where
  pub nobody_meant : IsMeant names side text Nobody → MeansNoMember names side text
  nobody_meant h k lt = decide (means names side text k) refl
    where
      decide : (b : Bool) → means names side text k ≡ b → means names side text k ≡ false
      decide false e = e
      decide true e = absurd (no_both e (h.is k (h.all k e)))

  -- a text that means only a member outside the docket means no member of the docket
  pub stranger_meant : (r : ℕ) → IsMeant names side text (One r) → member_count names.docket side ≤ r → MeansNoMember names side text
  stranger_meant r h past k lt = decide (means names side text k) refl
    where
      decide : (b : Bool) → means names side text k ≡ b → means names side text k ≡ false
      decide false e = e
      decide true e = let same = h.is.1.1 k (h.all k e) e in absurd (omega (arith, same, lt, past))

  pub alone_meant : (r : ℕ) → IsMeant names side text (One r) → r < member_count names.docket side → MeansAlone names side text r
  alone_meant r h lt = record { member = lt; is_meant = h.is.1.0; alone = λ k met. h.is.1.1 k (h.all k met) met }

  pub two_meant : IsMeant names side text Several → MeansTwo names side text
  two_meant h = record {
    one = h.is.0;
    other = h.is.1.0;
    apart = h.is.1.1.0;
    first = h.is.1.1.1.1.0;
    second = h.is.1.1.1.1.1;
  }
