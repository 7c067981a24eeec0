pub mod Whole
pub mod Lengths
pub mod Attached
pub mod Counts
pub mod Delivered
