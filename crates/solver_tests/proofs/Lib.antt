pub mod Unapplied
pub mod Covered
pub mod Replacing
pub mod Alike
