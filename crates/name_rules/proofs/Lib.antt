mod Membership
mod NameTests
mod ExprParts
mod StmtParts
mod DeclParts
mod DeclSteps
mod Whole
pub mod AmongFacts
pub mod AgainFacts
pub mod SiteFacts
pub mod LaterFacts
pub mod ListedFacts
pub mod RedeclaredFacts
pub mod Phase
