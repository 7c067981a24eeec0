pub mod Cases
pub mod Agrees
pub mod Reading
pub mod Stepping
