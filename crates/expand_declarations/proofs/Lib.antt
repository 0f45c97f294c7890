pub mod WordLaws
pub mod TableLaws
pub mod LayoutLaws
pub mod StartLaws
pub mod PairRules
pub mod Faultless
pub mod NearIndices
