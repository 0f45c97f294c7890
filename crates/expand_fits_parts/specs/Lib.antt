pub use Rattle.expand_correct.specs as from_expand_correct
pub use Rattle.expand_declarations.specs as from_expand_declarations
pub use Rattle.expand_correct.specs.from_expand_documents
pub use Rattle.expand_rules.specs as from_expand_rules
pub use Rattle.expand_correct.specs.from_expand_steps
pub mod Forms
pub mod Conditions
