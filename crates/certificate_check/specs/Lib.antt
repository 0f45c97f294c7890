pub use Rattle.event_checker.specs as from_event_checker
