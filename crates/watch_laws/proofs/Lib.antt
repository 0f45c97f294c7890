pub mod Readings
pub mod Alike
pub mod Unviolated
pub mod Accepted
