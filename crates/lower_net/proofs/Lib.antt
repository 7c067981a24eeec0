pub mod Walks
pub mod Found
pub mod Whole
pub mod Over
mod Sharing
pub mod Still
pub mod Leading
pub mod Wiring
pub mod Ranging
pub mod Few
