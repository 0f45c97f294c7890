pub use Rattle.proof_plans.specs as from_proof_plans
pub use Rattle.proof_plans.specs.from_rules_steps
pub use Rattle.proof_plans.specs.from_safety_rules
pub mod Laws
pub mod Owning
pub mod Proving
pub mod Searches
pub mod Telling
