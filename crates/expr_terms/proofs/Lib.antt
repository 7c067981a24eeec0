pub mod Arguments
pub mod Lists
pub mod Found
pub mod Counts
pub mod FunctionWidths
pub mod Making
pub mod Calls
pub mod Whole
