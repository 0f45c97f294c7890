pub mod Faults
pub mod FirstWord
pub mod FrontWords
pub mod Fronts
pub mod Refusals
pub mod Sections
