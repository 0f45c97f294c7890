pub use Rattle.meaning_executions.specs as from_meaning_executions
pub use Rattle.meaning_states.specs as from_meaning_states
pub mod AlikeLaws
pub mod Examples
pub mod KeptLaws
pub mod PairRules
pub mod ProgressLaws
pub mod RoundSums
pub mod StandingLaws
pub mod Stands
pub mod Tests
pub mod UnionRules
