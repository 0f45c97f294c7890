pub use Rattle.search_tree.proofs as lemmas_from_search_tree
pub mod FindingLaws
pub mod PlainWalks
