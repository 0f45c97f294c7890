pub use Rattle.expand_documents.proofs.lemmas_from_expand_statements
pub mod Values
pub mod Declared
pub mod Exact
pub mod Preserved
