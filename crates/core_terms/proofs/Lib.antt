pub use Rattle.meaning_states.proofs as lemmas_from_meaning_states
pub mod BoolLaws
pub mod CapLaws
pub mod ClosedLaws
pub mod FoldingLaws
pub mod FrameLaws
pub mod HeavierLaws
pub mod IntTests
pub mod KnownLaws
pub mod LighterLaws
mod LookLaws
mod MarkLaws
mod MergeLaws
mod NodeLaws
pub mod PartLaws
mod PlaceLaws
pub mod PoolLaws
pub mod QuotientLaws
pub mod ReplacingLaws
pub mod SameLaws
pub mod TreeFolds
pub mod WeightLaws
