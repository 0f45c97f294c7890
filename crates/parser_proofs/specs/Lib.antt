pub mod Forms
pub mod Reasons
pub mod TermParts
