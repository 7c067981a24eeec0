pub mod Sizes
pub mod Knowing
pub mod Variables
pub mod Scopes
pub mod Finds
