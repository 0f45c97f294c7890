pub mod Factors
pub mod Takes
pub mod Counts
