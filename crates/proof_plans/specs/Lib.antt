pub use Rattle.rules_steps.specs as from_rules_steps
pub use Rattle.safety_rules.specs.from_rules_table
pub use Rattle.safety_rules.specs as from_safety_rules
pub mod Following
pub mod Giving
pub mod Laws
pub mod Planning
pub mod Reaching
pub mod Shown
pub mod Verdicts
