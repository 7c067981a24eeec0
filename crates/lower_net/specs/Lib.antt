pub mod NetDeclarations
pub mod Halves
pub mod Limits
pub mod Refused
pub mod Idle
pub mod Led
pub mod Wired
