pub use Rattle.rules_steps.proofs as lemmas_from_rules_steps
pub use Rattle.safety_rules.proofs.lemmas_from_rules_table
pub mod BookLaws
pub mod Equations
pub mod FollowLaws
pub mod LoopLaws
pub mod MadeLaws
pub mod PlanLaws
pub mod ReachLaws
pub mod VerdictLaws
pub mod WalkLaws
