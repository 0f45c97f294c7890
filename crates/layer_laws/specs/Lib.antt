pub use Rattle.meaning_laws.specs as from_meaning_laws
pub mod Layers
pub mod Resets
pub mod Writing
