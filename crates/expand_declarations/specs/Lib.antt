pub mod Texts
pub mod WordNumbers
pub mod Numbers
pub mod Slots
pub mod Shown
pub mod Start
pub mod References
