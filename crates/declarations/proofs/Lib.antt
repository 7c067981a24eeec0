pub use Rattle.numbering.proofs.NameFacts
pub mod PlaceFacts
pub mod LatestFacts
pub mod RoleFacts
pub mod TableFacts
pub mod ReaderFacts
pub mod Keeping
