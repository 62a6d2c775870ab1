pub mod OfTexts
pub mod OfAnswers
