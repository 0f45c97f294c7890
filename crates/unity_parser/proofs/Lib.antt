pub use Rattle.unity_lexer.proofs as lemmas_from_unity_lexer
pub mod CertificateLoops
pub mod FrontFaults
pub mod FrontNames
pub mod ItemForms
pub mod NoBrackets
pub mod NodeForms
pub mod Parsed
pub mod Parts
pub mod Readings
