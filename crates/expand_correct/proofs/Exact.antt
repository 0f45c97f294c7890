pub mod Standing
pub mod Sights
pub mod Statements
pub mod Formulas
