pub use Rattle.event_checker.specs as from_event_checker
pub mod Judges
pub mod Laws
pub mod Told
