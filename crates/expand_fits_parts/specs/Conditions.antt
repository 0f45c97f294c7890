-- Statements, words, programs, proofs and steps are counted, numbered and named.
pub mod ArgumentConditions
pub mod NamedConditions
pub mod ProgramConditions
pub mod ProofConditions
pub mod ShownConditions
pub mod SizeConditions
pub mod StatementConditions
pub mod StepConditions
pub mod TermConditions
pub mod WordConditions
