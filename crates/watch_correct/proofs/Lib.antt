pub mod Endings
pub mod Sources
pub mod Finding
pub mod Stops
