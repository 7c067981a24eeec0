pub mod Failing
pub mod Deciding
pub mod Telling
