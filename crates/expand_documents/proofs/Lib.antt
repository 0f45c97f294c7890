pub use Rattle.expand_statements.proofs as lemmas_from_expand_statements
pub mod DefinitionLaws
