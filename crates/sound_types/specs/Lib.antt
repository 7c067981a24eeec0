pub mod Literals
pub mod Matching
pub mod WellTyped
pub mod Ends
pub mod Defined
pub mod Soundness
