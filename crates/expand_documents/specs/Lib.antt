pub use Rattle.expand_statements.specs as from_expand_statements
pub use Rattle.expand_steps.specs as from_expand_steps
pub mod AlwaysNames
pub mod Cores
pub mod Faults
