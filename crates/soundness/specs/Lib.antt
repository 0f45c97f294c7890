pub use Rattle.cli_texts.specs as from_cli_texts
pub use Rattle.expand_fits_parts.specs.from_expand_correct
pub use Rattle.expand_fits_parts.specs.from_expand_declarations
pub use Rattle.expand_fits_parts.specs.from_expand_documents
pub use Rattle.expand_fits_parts.specs.from_expand_steps
pub use Rattle.cli_texts.specs.from_rules_steps
pub use Rattle.rules_table.specs as from_rules_table
pub mod Written
pub mod PlanSteps
pub mod Properties
pub mod Executions
pub mod Told
pub mod Layers
