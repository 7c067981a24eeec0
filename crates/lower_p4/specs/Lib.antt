pub mod OfText
pub mod Lowers
pub mod LowerLimits
pub mod Lowering
pub mod Grounds
