pub mod Bounds
pub mod Gives
pub mod Joints
pub mod Lists
