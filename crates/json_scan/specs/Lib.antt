pub mod Numbers
pub mod Pairs
pub mod Scanning
pub mod Whole
