pub mod Lists
pub mod Ranges
pub mod Deciding
pub mod Inputs
pub mod Telling
