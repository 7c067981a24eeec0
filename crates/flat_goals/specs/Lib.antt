pub mod Applied
pub mod Reducing
pub mod Groups
pub mod Agreeing
