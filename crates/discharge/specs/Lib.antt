pub mod Queries
pub mod Meeting
pub mod Answering
pub mod Asked
