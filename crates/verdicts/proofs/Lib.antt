pub mod Along
pub mod Failing
pub mod Outcomes
pub mod True
