pub mod Lines
pub mod Stretches
pub mod Deriving
pub mod Disjunctions
pub mod Inductions
pub mod Leading
pub mod References
