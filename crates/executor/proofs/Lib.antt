pub use Rattle.core_terms.proofs as lemmas_from_core_terms
pub mod StartLaws
pub mod WeightLaws
pub mod StateLaws
pub mod PreparingLaws
pub mod StartStateLaws
pub mod TryingLaws
