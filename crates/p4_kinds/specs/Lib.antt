pub mod Parts
pub mod Seen
pub mod Typed
pub mod Depths
pub mod Flat
