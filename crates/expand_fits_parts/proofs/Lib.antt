pub use Rattle.expand_correct.proofs as lemmas_from_expand_correct
pub use Rattle.expand_correct.proofs.lemmas_from_expand_statements
pub mod Forms
pub mod Conditions
