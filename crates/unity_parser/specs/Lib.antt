pub use Rattle.unity_lexer.specs as from_unity_lexer
pub mod Document
pub mod Fronts
pub mod ParseAnswers
