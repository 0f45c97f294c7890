pub use Rattle.core_terms.specs.from_case_tables
pub use Rattle.core_terms.specs as from_core_terms
pub use Rattle.meaning_documents.specs as from_meaning_documents
pub use Rattle.meaning_documents.specs.from_meaning_executions
pub use Rattle.names_rules.specs as from_names_rules
pub use Rattle.names_rules.specs.from_unity_syntax
pub mod Measures
pub mod Counts
pub mod Forming
pub mod Limits
pub mod Assigning
pub mod Documents
pub mod Lists
pub mod Programs
