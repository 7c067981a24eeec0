pub mod Packing
pub mod Entering
