pub use Rattle.expand_fits_parts.specs.from_expand_documents
pub use Rattle.expand_fits_parts.specs.from_expand_steps
pub mod DocumentLaws
pub mod ReadingLaws
pub mod StartConditions
