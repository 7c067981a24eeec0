pub use Rattle.numbering.specs.NameNumbers
pub mod Places
pub mod Declares
pub mod Widths
pub mod Kept
