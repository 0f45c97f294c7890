pub mod LabelLaws
pub mod NameLaws
pub mod PlaceLaws
pub mod RowLaws
pub mod TableLaws
pub mod TermLaws
