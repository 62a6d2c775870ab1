pub mod GrowFacts
pub mod AnswerFacts
