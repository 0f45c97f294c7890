pub mod Enters
pub mod Tables
pub mod Numbers
