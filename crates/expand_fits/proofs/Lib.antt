pub use Rattle.expand_fits_parts.proofs as lemmas_from_expand_fits_parts
pub mod Sound
pub mod Parsed
pub mod Initial
