pub use Rattle.run_correct.proofs.lemmas_from_expand_correct
pub use Rattle.run_correct.proofs as lemmas_from_run_correct
pub mod Points
pub mod Runs
