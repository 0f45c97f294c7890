pub use Rattle.case_tables.specs as from_case_tables
pub use Rattle.meaning_states.specs as from_meaning_states
pub mod Values
pub mod Sizes
pub mod Weights
pub mod Places
pub mod Folding
pub mod Senses
pub mod Replacing
pub mod Steps
pub mod Trees
pub mod Unions
pub mod Pools
pub mod Marks
pub mod Laws
pub mod Conditions
