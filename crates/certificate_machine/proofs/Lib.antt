pub mod ScopedLaws
pub mod MachineLaws
pub mod QuotLaws
pub mod SpanLaws
pub mod TermLaws
pub mod RunningLaws
