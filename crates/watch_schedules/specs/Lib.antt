pub use Rattle.proof_plans.specs as from_proof_plans
pub mod Stops
pub mod Schedules
pub mod Telling
