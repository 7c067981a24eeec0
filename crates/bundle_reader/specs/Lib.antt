pub mod FolderCounts
pub mod Readings
pub mod Told
pub mod Parts
pub mod Mixed
pub mod OneReading
pub mod Alone
