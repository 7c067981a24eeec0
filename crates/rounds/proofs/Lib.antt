pub mod Guesses
pub mod Parts
pub mod Reading
pub mod Queries
pub mod Witnesses
pub mod Rounds
