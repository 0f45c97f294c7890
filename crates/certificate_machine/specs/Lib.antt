pub mod Machines
pub mod Spans
pub mod Spots
pub mod Sums
pub mod Terms
