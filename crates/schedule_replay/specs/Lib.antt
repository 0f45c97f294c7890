pub mod Lines
pub mod Buffered
pub mod Schedules
