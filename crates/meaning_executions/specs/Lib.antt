pub use Rattle.meaning_states.specs as from_meaning_states
pub mod Alike
pub mod Counting
pub mod Execution
pub mod ExecutionLaws
pub mod Pairwise
pub mod Properties
pub mod RoundLaws
pub mod Rounds
pub mod Systems
