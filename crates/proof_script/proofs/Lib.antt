pub use Rattle.proof_plans.proofs as lemmas_from_proof_plans
pub use Rattle.proof_plans.proofs.lemmas_from_rules_steps
pub mod BudgetLaws
pub mod PlannedLaws
pub mod SearchLaws
pub mod SomeLaws
pub mod TellingLaws
