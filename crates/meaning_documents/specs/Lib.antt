pub use Rattle.meaning_executions.specs as from_meaning_executions
pub mod AsSystem
pub mod Claims
pub mod Instances
pub mod Names
pub mod Programs
pub mod Setting
pub mod Steps
pub mod SystemLaws
pub mod Value
pub mod Writes
