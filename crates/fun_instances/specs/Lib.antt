pub mod AssumptionTerms
pub mod Taking
pub mod Saying
pub mod Numbers
pub mod OwnInputs
