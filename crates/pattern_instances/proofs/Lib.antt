pub mod Ids
pub mod Firsts
pub mod Making
pub mod Places
pub mod Adding
pub mod Taking
