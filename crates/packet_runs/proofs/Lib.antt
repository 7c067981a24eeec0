pub mod Pairs
pub mod Known
pub mod Reporting
mod OneReport
