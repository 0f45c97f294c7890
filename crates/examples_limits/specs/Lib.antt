pub mod Count
pub mod Deep
pub mod Swap
