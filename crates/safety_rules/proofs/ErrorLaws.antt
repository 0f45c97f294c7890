-- An error that is handed on is the same error.
use Rattle.std.proofs.Common.{◌≡◌, Result, Ok, Err, sym, subst}
use Rattle.std.specs.Result.{IsErrAnd}
use Rattle.safety_rules.specs.declared.places.RuleError.{RuleError}

pub handed_on : {T : Type 0} (P : Result T RuleError → Type 0) (r : Result T RuleError) (e : RuleError) →
    IsErrAnd r (λ x. x ≡ e) → P (Err e) → P r
handed_on P (Err x) e h p = subst (λ y. P (Err y)) (sym h) p
handed_on P (Ok x) e h p = absurd h
