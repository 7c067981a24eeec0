pub mod Counted
pub mod Readings
pub mod Logged
pub mod ExprKinds
pub mod CallKinds
pub mod BlockKinds
pub mod MetaNames
pub mod SiteKinds
pub mod Headers
pub mod Tables
pub mod Programs
pub mod WideTokens
pub mod KindReadings
pub mod Expressions
pub mod Blocks
pub mod Trees
pub mod Lengths
pub mod SizeCounted
mod Filled
mod Merging
mod Wide
