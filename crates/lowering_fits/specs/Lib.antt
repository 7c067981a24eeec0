pub mod ShallowTrees
pub mod WideLiterals
pub mod Filling
pub mod Sharing
