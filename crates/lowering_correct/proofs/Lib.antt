pub mod Taking
pub mod FunctionsFit
pub mod ForkCalls
pub mod Formed
pub mod Fitting
pub mod NetParts
pub mod RolesFit
pub mod NamedForks
mod Found
mod Looks
mod Ordered
mod Exact
mod GroupNumbers
mod Serves
mod Chosen
mod Members
mod Widths
mod Right
mod Loads
mod Fits
mod Lowerings
mod Made
mod Few
pub mod Functions
pub mod Calls
pub mod Guards
pub mod Sent
pub mod WireRuns
pub mod WireGoes
pub mod Facts
pub mod Lookups
pub mod Steps
pub mod Ingress
pub mod Network
pub mod Wiring
pub mod Delivered
pub mod Followed
pub mod WholeFitting
