pub use Rattle.event_checker.proofs as lemmas_from_event_checker
pub mod CheckLaws
pub mod FinishLaws
pub mod LeftLaws
pub mod MoveLaws
pub mod PlanLaws
pub mod StandLaws
pub mod TellLaws
pub mod ToldLaws
