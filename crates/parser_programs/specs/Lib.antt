pub use Rattle.parser_expressions.specs as from_parser_expressions
pub mod Forms
