pub mod Exact
pub mod Tables
pub mod Chains
pub mod Clashes
