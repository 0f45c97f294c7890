pub mod ClaimTrials
pub mod DivisionTrials
pub mod ExamplesRead
pub mod OperatorTrials
pub mod ProgramTrials
pub mod StepTrials
pub mod ValueTrials
