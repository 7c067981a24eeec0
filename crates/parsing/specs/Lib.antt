pub mod Depth
pub mod Faults
pub mod Joins
pub mod PlainParser
pub mod Reading
