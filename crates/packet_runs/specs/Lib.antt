pub mod Packets
pub mod Judging
pub mod Reports
pub mod Stopping
pub mod Growing
