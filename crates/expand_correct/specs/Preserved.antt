pub mod Sight
pub mod Faultless
pub mod Exact
pub mod Meaning
pub mod Claims
pub mod Proofs
pub mod Terms
pub mod References
