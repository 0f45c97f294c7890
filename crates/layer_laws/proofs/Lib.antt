pub use Rattle.meaning_laws.proofs as lemmas_from_meaning_laws
pub mod LayerTheorems
pub mod ResetTheorems
pub mod RoundsBelow
pub mod WritingTheorems
