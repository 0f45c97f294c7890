pub mod RestLaws
pub mod AnswerLaws
