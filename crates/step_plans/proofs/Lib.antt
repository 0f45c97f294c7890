pub mod BookLaws
pub mod NextLaws
pub mod StepLaws
