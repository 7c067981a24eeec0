pub mod Printing
pub mod P4Seams
pub mod Prints
pub mod Switches
pub mod Whole
pub mod WellKinded
pub mod Example
