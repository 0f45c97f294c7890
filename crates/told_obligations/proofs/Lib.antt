pub mod PlaceLaws
pub mod ListingLaws
pub mod OriginLaws
pub mod PlanOrigins
