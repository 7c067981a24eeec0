pub mod Found
pub mod Goals
