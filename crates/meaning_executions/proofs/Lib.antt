pub use Rattle.meaning_states.proofs as lemmas_from_meaning_states
pub mod ExecutionTheorems
pub mod PropertyTheorems
pub mod RoundTheorems
