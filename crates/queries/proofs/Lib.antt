pub mod Widths
pub mod Instances
pub mod Joins
pub mod Logs
pub mod Queries
