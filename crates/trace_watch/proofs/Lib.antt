pub mod TraceLaws
pub mod CaseLaws
pub mod TryLaws
pub mod LookLaws
pub mod KeepLaws
pub mod TracingLaws
