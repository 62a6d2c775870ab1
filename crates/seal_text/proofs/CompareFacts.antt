-- What the contract of a comparison promises, as one fact.
use Rattle.std.proofs.Common.{◌≡◌, ap}
use Rattle.std.specs.Prelude.{IfErr, IfOk, MatchResult, OnOk, Result, Ok, Err}

-- if a call promises A, promises B, and makes promises for its success and for its fault, it makes
-- all these promises together
pub compared : {W T E C : Type 0} (contents : W → C) (old new : W) (r : Result T E) (A B : Type 0) (P : T → Type 0) (Q D : E → Type 0)
    → OnOk r A → OnOk r B → IfOk r P → IfErr r Q → IfErr r (λ e. D e → new ≡ old)
    → MatchResult r (λ x. A × B × P x) (λ e. Q e × (D e → contents new ≡ contents old))
compared contents old new (Ok x) A B P Q D a b p q s = (a, b, p)
compared contents old new (Err e) A B P Q D a b p q s = (q, λ before. ap contents (s before))
