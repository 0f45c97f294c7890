pub mod Division
pub mod DivisionLaws
pub mod State
pub mod Step
pub mod StepLaws
