pub mod Values
pub mod Forms
pub mod Reading
