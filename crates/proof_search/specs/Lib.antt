pub use Rattle.linear_prover.specs as from_linear_prover
pub use Rattle.search_tree.specs as from_search_tree
pub mod Judging
