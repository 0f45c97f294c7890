pub mod Checkers
pub mod Events
pub mod Laws
pub mod Readings
