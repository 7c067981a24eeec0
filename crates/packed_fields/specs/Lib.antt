pub mod Bits
pub mod AtOnce
