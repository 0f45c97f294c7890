pub use Rattle.proof_plans.proofs as lemmas_from_proof_plans
