pub mod Events
pub mod Laws
pub mod Pairs
pub mod Sections
pub mod Signs
pub mod Steps
