pub mod Lines
pub mod Numbers
pub mod LineOf
pub mod Printing
