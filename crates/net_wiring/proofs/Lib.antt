pub mod BareNumbers
mod Differing
mod ItemByItem
mod OtherTrees
mod SameTrees
