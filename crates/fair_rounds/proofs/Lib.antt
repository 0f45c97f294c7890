pub use Rattle.executor.proofs as lemmas_from_executor
pub mod CountLaws
pub mod MarkLaws
pub mod RecordTheorems
