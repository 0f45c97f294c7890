pub mod DocumentLaws
pub mod Found
pub mod Pieces
pub mod SectionLaws
pub mod Small
pub mod TextLaws
