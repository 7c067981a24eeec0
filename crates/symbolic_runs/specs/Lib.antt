pub mod Reading
pub mod Fitting
pub mod Places
pub mod Entering
