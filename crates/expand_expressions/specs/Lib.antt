pub use Rattle.expand_rules.specs.from_meaning_documents
pub mod Sound
pub mod Places
pub mod Joints
pub mod Senses
