pub mod Seen
pub mod Widths
