pub mod Refinable
pub mod Failing
pub mod Named
pub mod Whole
