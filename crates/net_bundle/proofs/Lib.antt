mod NetValue
mod RowsValue
mod RowsLong
mod InOrder
mod InTurn
mod InParts
mod Fitting
mod OneSwitch
mod ReadingLists
pub mod ReadingDigests
mod ReadingNames
mod ReadingBack
mod Held
mod Shared
mod RowsExact
mod NetSeen
mod Sought
mod NetExact
