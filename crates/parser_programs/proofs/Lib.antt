pub use Rattle.parser_expressions.proofs as lemmas_from_parser_expressions
pub mod ItemForms
