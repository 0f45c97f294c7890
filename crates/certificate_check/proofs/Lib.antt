mod LoopLaws
mod AnswerLaws
