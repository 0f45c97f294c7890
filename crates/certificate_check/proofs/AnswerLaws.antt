-- The answer for nodes, clause by clause.
use Rattle.std.proofs.Common.{◌≢◌, Result, Ok, Err, MatchResult, OnOk, IfErr}
use Rattle.event_checker.specs.declared.errors.CertError.{CertError}

pub where-ok : {A E : Type 0} (P : Type 0) (Q : E → Type 0) (r : Result A E) → MatchResult r (λ x. P) Q → OnOk r P
where-ok P Q (Ok x) m = m
where-ok P Q (Err e) m = tt

pub where-err : {A E : Type 0} (P : Type 0) (Q : E → Type 0) (r : Result A E) → MatchResult r (λ x. P) Q → IfErr r Q
where-err P Q (Ok x) m = tt
where-err P Q (Err e) m = m

pub where-fault : {A : Type 0} (P : Type 0) (r : Result A CertError) → IfErr r (λ e. P) →
    IfErr r (λ e. e ≢ CertError.Memory → P)
where-fault P (Ok x) h = tt
where-fault P (Err e) h = λ n. h
