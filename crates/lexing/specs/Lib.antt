pub mod Lexed
pub mod Numbers
pub mod Prefixes
pub mod Spellings
