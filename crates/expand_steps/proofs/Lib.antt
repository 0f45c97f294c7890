pub mod TermLaws
pub mod StepLaws
