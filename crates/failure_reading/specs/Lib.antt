pub mod OfObligation
pub mod Witnesses
