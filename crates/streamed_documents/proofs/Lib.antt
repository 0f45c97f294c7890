pub use Rattle.expand_fits.proofs as lemmas_from_expand_fits
pub mod FirstFaults
pub mod FrontCores
pub mod Passing
pub mod Skimming
pub mod Hearings
pub mod SectionSteps
pub mod Certificates
pub mod Answers
pub mod AtHand
pub mod PairSteps
