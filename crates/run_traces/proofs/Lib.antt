pub mod FindingLaws
pub mod AnswerLaws
pub mod Writing
pub mod TraceLaws
pub mod TraceSteps
pub mod TraceTheorems
pub mod TraceAnswers
