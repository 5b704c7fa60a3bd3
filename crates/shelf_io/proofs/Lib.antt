pub mod CountLaws
pub mod FileLaws
pub mod TextLaws
pub mod TalkLaws
pub mod ReadSteps
pub mod EntrySteps
pub mod KeptSteps
