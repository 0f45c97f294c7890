pub use Rattle.core_terms.specs.from_case_tables
pub use Rattle.core_terms.specs as from_core_terms
pub use Rattle.meaning_executions.specs as from_meaning_executions
pub mod StartState
pub mod Placing
pub mod Fitting
pub mod Preparing
pub mod Running
pub mod Trying
pub mod CoreSystem
