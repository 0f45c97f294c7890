pub mod LoopLaws
pub mod OpenLaws
pub mod ShortLaws
pub mod StateLaws
pub mod StepLaws
pub mod TableLaws
pub mod WalkLaws
