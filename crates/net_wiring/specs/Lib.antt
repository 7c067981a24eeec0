pub mod Bare
pub mod Differences
pub mod SameTrees
