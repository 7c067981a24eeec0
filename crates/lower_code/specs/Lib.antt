pub mod Blocks
pub mod Growth
pub mod Scopes
pub mod Variables
