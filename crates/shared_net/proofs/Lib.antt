pub mod Lone
pub mod Same
