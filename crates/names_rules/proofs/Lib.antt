pub use Rattle.unity_syntax.proofs as lemmas_from_unity_syntax
pub mod Faults
pub mod Lookups
pub mod Steps
