pub mod SignLaws
pub mod Forms
pub mod Back
pub mod Along
pub mod Finish
pub mod SectionLaws
pub mod PairLaws
