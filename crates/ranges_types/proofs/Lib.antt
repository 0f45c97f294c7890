pub mod Taking
pub mod Small
pub mod EachKind
pub mod ShareSame
