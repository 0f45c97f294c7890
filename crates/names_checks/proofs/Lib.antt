pub mod ReadingSteps
pub mod StatementLaws
pub mod Taking
