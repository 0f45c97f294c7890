pub mod Nests
pub mod Conditions
