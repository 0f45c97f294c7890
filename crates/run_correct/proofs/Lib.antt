pub use Rattle.expand_correct.proofs as lemmas_from_expand_correct
pub mod Lists
pub mod Labels
pub mod Slots
pub mod Written
pub mod Pairs
pub mod Standing
pub mod Names
pub mod Texts
pub mod Finding
pub mod Runs
pub mod Replays
