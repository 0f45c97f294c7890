pub use Rattle.obligations.proofs as lemmas_from_obligations
pub use Rattle.rules_table.proofs as lemmas_from_rules_table
pub use Rattle.wp_substitution.proofs as lemmas_from_wp_substitution
pub mod AgreeLaws
pub mod AnswerLaws
pub mod ArgumentLaws
pub mod BoundLaws
pub mod EachLaws
pub mod ErrorLaws
pub mod FilterLaws
pub mod InstanceLaws
pub mod JoinLaws
pub mod NameLaws
pub mod OversizedLaws
pub mod ParamLaws
pub mod PooledLaws
pub mod SoundLaws
pub mod StateLaws
pub mod UsableLaws
