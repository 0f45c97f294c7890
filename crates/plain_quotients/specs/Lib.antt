pub use Rattle.upgraded_texts.specs as from_upgraded_texts
pub mod Plain
pub mod Sources
pub mod Laws
