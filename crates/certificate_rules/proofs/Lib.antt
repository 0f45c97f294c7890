pub mod RefutationLaws
pub mod ClosedLaws
pub mod SoundLaws
pub mod SumLaws
pub mod WholeLaws
pub mod IndexLaws
pub mod Rooms
