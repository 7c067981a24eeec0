pub mod AssumptionValues
pub mod Assumed
pub mod Numbers
pub mod OwnInputs
