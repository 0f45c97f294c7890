pub mod BodyLaws
pub mod HeadingLaws
pub mod ContentLaws
