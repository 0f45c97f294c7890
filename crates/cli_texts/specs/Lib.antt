pub use Rattle.proof_plans.specs as from_proof_plans
pub use Rattle.proof_plans.specs.from_rules_steps
pub mod Names
pub mod Refusals
pub mod Verdicts
