pub use Rattle.run_correct.specs.from_expand_correct
pub use Rattle.run_correct.specs.from_expand_documents
pub use Rattle.run_correct.specs as from_run_correct
pub mod Traces
pub mod Answers
pub mod Laws
