pub mod Rows
pub mod Starts
pub mod Steps
pub mod Using
