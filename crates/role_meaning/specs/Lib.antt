pub mod Located
pub mod Levels
pub mod Progresses
pub mod Goings
pub mod Leading
pub mod Onward
pub mod Follows
pub mod Views
