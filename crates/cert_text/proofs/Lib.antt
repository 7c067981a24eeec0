mod CertsExact
mod CertsValue
mod Scanned
pub mod LogsExact
pub mod LogsApart
pub mod LogsValue
mod Accepting
pub mod OneCert
mod Showing
pub mod SideBySide
mod Telling
mod DefsUtf8
mod BudgetValue
mod BudgetApart
mod Example
mod Certified
