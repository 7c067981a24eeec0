pub mod Tests
pub mod Typed
