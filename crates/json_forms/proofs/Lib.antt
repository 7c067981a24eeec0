mod Seen
pub mod Exact
pub mod Plain
pub mod JsonObjects
