pub use Rattle.expand_fits.proofs.lemmas_from_expand_fits_parts
pub mod Accepting
pub mod Cores
pub mod Digits
pub mod Documents
pub mod Renumbered
pub mod Terminals
pub mod Versions
