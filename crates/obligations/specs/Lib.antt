pub use Rattle.core_terms.specs.from_case_tables
pub use Rattle.core_terms.specs as from_core_terms
pub mod Variables
pub mod LinearForms
pub mod Scopes
pub mod Settling
pub mod Sides
pub mod Quotients
pub mod Load
pub mod Opening
pub mod Reach
pub mod Shapes
pub mod Plain
pub mod Obligations
pub mod Closed
pub mod Certificates
