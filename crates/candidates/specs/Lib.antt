pub mod Assigned
pub mod Applying
pub mod Flat
