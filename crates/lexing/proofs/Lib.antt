mod Lookup
pub mod Names
mod PrefixFits
mod Runs
mod SmallValues
mod Steps
