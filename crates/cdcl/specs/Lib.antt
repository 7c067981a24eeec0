pub mod States
pub mod Waiting
pub mod Watching
pub mod Searching
pub mod Marks
pub mod Analyses
pub mod Resolving
pub mod Answering
