pub use Rattle.soundness.specs.from_rules_steps
pub use Rattle.soundness.specs as from_soundness
pub mod Claimed
pub mod WatchLaws
