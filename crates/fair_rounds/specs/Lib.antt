pub use Rattle.executor.specs as from_executor
pub mod Counts
pub mod Records
pub mod RecordLaws
