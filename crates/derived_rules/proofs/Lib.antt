pub mod SideLaws
pub mod WithinLaws
