pub mod Matching
pub mod Staying
pub mod CommandsStay
pub mod Ranges
