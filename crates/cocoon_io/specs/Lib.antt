pub mod Files
pub mod CodedFiles
pub mod Calls
pub mod Entries
pub mod Plans
