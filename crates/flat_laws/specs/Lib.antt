pub mod Flat
pub mod Meant
pub mod Rows
