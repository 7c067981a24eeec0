pub mod Deep
pub mod NameFacts
pub mod NumberFacts
pub mod ByteFacts
pub mod StmtFacts
pub mod TestFacts
pub mod FlatPrograms
