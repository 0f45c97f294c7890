pub mod BufferLaws
pub mod LineLaws
pub mod ScheduleLaws
