pub use Rattle.expand_fits_parts.proofs.lemmas_from_expand_correct
pub use Rattle.rules_table.proofs as lemmas_from_rules_table
pub mod Words
pub mod Rules
pub mod PlanRecords
pub mod Sources
pub mod Claims
pub mod Starts
pub mod Lines
pub mod LayerRuns
