pub mod DivisionTheorems
pub mod StepTheorems
