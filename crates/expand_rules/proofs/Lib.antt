pub use Rattle.core_terms.proofs as lemmas_from_core_terms
pub use Rattle.names_rules.proofs as lemmas_from_names_rules
pub use Rattle.names_rules.proofs.lemmas_from_unity_syntax
pub mod FlawLaws
pub mod Differences
pub mod KnownParts
pub mod Chains
pub mod Growing
pub mod KnownChains
pub mod Equations
