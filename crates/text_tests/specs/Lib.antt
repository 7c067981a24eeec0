pub mod TwoSwitches
pub mod Networks
