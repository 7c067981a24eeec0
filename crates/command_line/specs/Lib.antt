pub mod Command
pub mod Names
pub mod Syntax
pub mod Arguments
pub mod Subcommands
pub mod Words
