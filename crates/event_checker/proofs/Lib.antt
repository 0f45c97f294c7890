pub mod NodeLaws
pub mod WalkLaws
pub mod PairLaws
pub mod StepLaws
pub mod BeginLaws
pub mod CheckerLaws
