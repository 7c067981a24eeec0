pub mod FirstFacts
pub mod Halves
pub mod PairFacts
pub mod ScanFacts
pub mod MatchFacts
pub mod PartFacts
