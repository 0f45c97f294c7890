pub use Rattle.expand_fits.specs.from_expand_documents
pub use Rattle.expand_fits.specs.from_expand_steps
pub use Rattle.unity_parser.specs as from_unity_parser
pub mod Upgraded
pub mod TextLaws
pub mod VerdictLaws
