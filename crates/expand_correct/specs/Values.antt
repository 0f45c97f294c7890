pub mod Worth
pub mod ValueLaws
pub mod StepLaws
pub mod SightLaws
pub mod ProgramLaws
pub mod ExactLaws
pub mod WeightLaws
pub mod DocumentExact
