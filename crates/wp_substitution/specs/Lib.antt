pub mod Preconditions
pub mod Exact
pub mod Oversized
pub mod Joined
pub mod Chains
pub mod Agreeing
pub mod Memos
pub mod Numbers
