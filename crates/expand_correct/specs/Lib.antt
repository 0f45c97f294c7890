pub use Rattle.expand_documents.specs as from_expand_documents
pub use Rattle.expand_documents.specs.from_expand_statements
pub use Rattle.expand_documents.specs.from_expand_steps
pub mod Values
pub mod Declared
pub mod Exact
pub mod Preserved
