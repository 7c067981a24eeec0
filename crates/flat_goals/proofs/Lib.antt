pub mod WalkOrder
pub mod Reductions
pub mod Equals
pub mod Agreements
pub mod FlatGoals
