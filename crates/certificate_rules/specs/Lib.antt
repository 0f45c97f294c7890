pub use Rattle.obligations.specs as from_obligations
pub mod Sums
pub mod Refutation
pub mod Trees
pub mod Indexes
pub mod Additions
