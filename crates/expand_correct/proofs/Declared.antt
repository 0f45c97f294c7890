pub mod Lists
pub mod Agreed
pub mod Found
pub mod Slots
pub mod Names
