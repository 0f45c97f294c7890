pub mod Readings
pub mod Cases
pub mod Violations
pub mod Places
pub mod Waiting
pub mod Stepping
pub mod Watching
pub mod Tracing
