pub mod Hinted
pub mod KnownClauses
pub mod Registering
pub mod Subsuming
