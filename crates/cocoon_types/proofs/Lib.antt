pub mod Taking
pub mod FaultOrder
pub mod NotesLaws
pub mod FirstFaults
pub mod Limiting
mod Appended
pub mod NamedTokens
pub mod Functions
pub mod Headers
