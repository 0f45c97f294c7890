pub use Rattle.expand_declarations.specs as from_expand_declarations
pub mod Elements
pub mod ProofTerms
pub mod Steps
