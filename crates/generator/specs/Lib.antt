pub mod Design
pub mod Definitions
pub mod Packets
pub mod Counting
pub mod Arriving
pub mod Stopping
