pub mod LiteralFacts
pub mod Placing
pub mod ClauseStatuses
pub mod Models
