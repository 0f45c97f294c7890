pub mod Attributes
pub mod AttributeLaws
pub mod SlotLaws
pub mod VariableLaws
pub mod StayingLaws
pub mod AssignmentLaws
pub mod AlwaysLaws
