pub mod NameTests
pub mod Saturation
pub mod BlockWays
pub mod Weighing
pub mod Tables
pub mod Growing
mod NewInputs
pub mod RoleNames
mod Bodies
pub mod Ends
mod Roots
mod Results
mod RoleNumbers
mod InputTerms
mod ReadBack
mod PushedBack
mod Chains
mod KnownTerms
mod Pairing
mod Gathering
mod LargeCounts
mod Refinable
mod Leaves
mod Roles
mod Treed
mod Joining
pub mod OwedFormulas
