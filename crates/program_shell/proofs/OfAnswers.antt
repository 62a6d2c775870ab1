-- What a contract promises of an answer, as one fact.
use Rattle.std.proofs.Common.{◌≡◌, ap}
use Rattle.std.specs.Prelude.{MatchResult, IfOk, IfErr, Result, Ok, Err}

-- the promises for Ok, for a fault, and for faults that leave the writer unchanged, as one promise
pub answered : {W T E C : Type 0} (contents : W → C) (old new : W) (r : Result T E) (P : T → Type 0) (Q B : E → Type 0) → IfOk r P → IfErr r Q
    → IfErr r (λ e. B e → new ≡ old) → MatchResult r P (λ e. Q e × (B e → contents new ≡ contents old))
answered contents old new (Ok x) P Q B p q s = p
answered contents old new (Err e) P Q B p q s = (q, λ before. ap contents (s before))
