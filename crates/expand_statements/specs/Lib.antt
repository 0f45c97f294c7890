pub mod Chains
pub mod Standing
pub mod Counts
pub mod Visiting
pub mod Building
pub mod ItemLaws
