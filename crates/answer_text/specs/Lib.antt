pub mod AnswerText
pub mod RefusedText
