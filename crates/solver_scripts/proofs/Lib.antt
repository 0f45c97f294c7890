pub mod TreeTexts
pub mod ScriptTexts
pub mod AssignmentLaws
pub mod DivisionLaws
pub mod MeaningLaws
