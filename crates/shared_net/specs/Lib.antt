pub mod Beside
pub mod Merging
pub mod Shared
