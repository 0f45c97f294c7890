pub use Rattle.fixed_points.specs as from_fixed_points
pub use Rattle.obligations.specs as from_obligations
pub use Rattle.rules_table.specs as from_rules_table
pub use Rattle.wp_substitution.specs as from_wp_substitution
pub mod Answers
pub mod Bounds
pub mod Errors
pub mod Foldable
pub mod Pairs
pub mod Goals
pub mod Helpers
pub mod Instances
pub mod Premises
pub mod Sound
pub mod Usable
