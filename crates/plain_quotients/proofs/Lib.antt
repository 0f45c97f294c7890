pub use Rattle.upgraded_texts.proofs as lemmas_from_upgraded_texts
pub mod FormLaws
pub mod StatementLaws
pub mod TermLaws
pub mod RuleLaws
pub mod WalkLaws
pub mod ExpressionLaws
pub mod AssignmentLaws
pub mod DocumentLaws
pub mod Choices
pub mod TreeLaws
pub mod VersionLaws
pub mod OnlyTimesLaws
