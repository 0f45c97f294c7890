-- Obligations that certificates refute.
use Rattle.std.specs.Prelude.{◌≡◌, ℕ, suc, List, [], ◌∷◌, slice_get, Some, Ok}
use Rattle.obligations.specs.declared.branches.Obligation.{Obligation}
use Rattle.obligations.specs.declared.certificates.Cert.{Cert}
use Rattle.certificate_rules.specs.Refutation.{walk_from_root}

-- the certificate of this number, from 0, refutes the obligation within so many levels
abbrev pub ShownAt : ℕ → List Cert → ℕ → Obligation → Type 0
ShownAt levels certs number o =
    (c : Cert) × (slice_get certs number ≡ Some c) × (walk_from_root levels o c.nodes ≡ Ok [])

-- each obligation, from this number on, is refuted by the certificate of its number
abbrev pub AreShown : ℕ → List Cert → ℕ → List Obligation → Type 0
AreShown levels certs number [] = Unit {0}
AreShown levels certs number (o ∷ os) = ShownAt levels certs number o × AreShown levels certs (suc number) os
