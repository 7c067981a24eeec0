pub mod Standing
pub mod Made
pub mod QuestionTerms
pub mod Shown
