pub mod FollowLaws
pub mod CountLaws
pub mod NarrowLaws
pub mod PlanLaws
pub mod QuestionLaws
pub mod ListLaws
