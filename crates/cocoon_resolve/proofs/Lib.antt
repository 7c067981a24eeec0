pub mod Saturation
pub mod Weighing
pub mod Forming
pub mod Knowing
pub mod Steps
pub mod BlockWays
pub mod RoleNames
pub mod FunctionSteps
pub mod Firsts
mod Phases
mod Levels
mod Widths
mod Bounds
mod Rows
