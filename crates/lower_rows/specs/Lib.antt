pub mod AllGroups
pub mod AllRows
pub mod FirstRows
pub mod Grouping
pub mod Numbered
pub mod Sets
pub mod Words
