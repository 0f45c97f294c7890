pub use Rattle.wp_substitution.specs as from_wp_substitution
pub mod FixedPoints
pub mod FixedForms
pub mod Laws
pub mod Leaving
