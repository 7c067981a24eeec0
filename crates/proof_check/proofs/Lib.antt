pub mod Hinting
pub mod Falsifying
pub mod Chaining
pub mod Subsumed
mod ClauseNumbers
mod ShortLogs
