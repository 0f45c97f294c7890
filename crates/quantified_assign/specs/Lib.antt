pub use Rattle.expand_documents.specs as from_expand_documents
pub mod Bodies
pub mod Headings
pub mod Expanding
