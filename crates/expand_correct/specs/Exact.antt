pub mod Parts
pub mod ByNames
pub mod Formulas
pub mod Seen
