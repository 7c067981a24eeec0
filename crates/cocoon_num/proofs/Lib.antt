pub mod Packing
pub mod Widths
