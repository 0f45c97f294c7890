pub mod SpreadLaws
pub mod EffectLaws
pub mod PastLaws
pub mod PartLaws
pub mod AddLaws
pub mod AssignLaws
pub mod UnwrittenLaws
