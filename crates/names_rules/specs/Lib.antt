pub use Rattle.unity_syntax.specs as from_unity_syntax
pub mod Scope
pub mod Reading
pub mod Part
pub mod Answers
pub mod Declarations
pub mod Statements
pub mod Proofs
pub mod WellNamed
