pub mod NameFacts
pub mod KeyFacts
pub mod NumberFacts
