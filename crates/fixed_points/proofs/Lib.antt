pub use Rattle.wp_substitution.proofs as lemmas_from_wp_substitution
pub mod SlotLaws
pub mod WriteLaws
pub mod PointLaws
pub mod FormLaws
pub mod TellingLaws
pub mod NamedLaws
pub mod LargeLaws
