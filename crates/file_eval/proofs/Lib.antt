pub mod EvalSteps
pub mod ReaderSteps
pub mod AnswerSteps
pub mod TextSteps
