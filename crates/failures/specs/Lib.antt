pub mod Failures
pub mod Found
pub mod Ending
pub mod FailureTexts
pub mod Told
