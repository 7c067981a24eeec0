pub mod Answers
pub mod FirstFault
