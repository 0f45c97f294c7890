pub use Rattle.meaning_executions.proofs as lemmas_from_meaning_executions
pub mod AlikeTheorems
pub mod CompletionTheorems
pub mod ExampleTrials
pub mod KeptTheorems
pub mod NumberTests
pub mod PairTheorems
pub mod ProgressTheorems
pub mod RoundSumTheorems
pub mod StandingTheorems
pub mod TruthLaws
pub mod UnionTheorems
