pub mod Ascending
pub mod SamePlaces
pub mod OneNetwork
pub mod Grounded
pub mod LongFiles
