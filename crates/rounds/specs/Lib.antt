pub mod Outcomes
pub mod Short
pub mod Steps
