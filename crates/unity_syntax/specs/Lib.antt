pub use Rattle.case_tables.specs as from_case_tables
pub mod Classes
pub mod Grammar
pub mod Kinds
pub mod ReadingLaws
pub mod TwoFolds
pub mod View
