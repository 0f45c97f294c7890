pub use Rattle.expand_correct.specs as from_expand_correct
pub use Rattle.expand_correct.specs.from_expand_documents
pub mod Names
pub mod Shown
pub mod Traces
pub mod Answers
pub mod Laws
