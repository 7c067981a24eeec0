pub mod Lists
pub mod Inputs
pub mod Applications
pub mod Rows
pub mod TrueQueries
