pub mod Counted
pub mod Whole
