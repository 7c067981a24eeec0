pub mod Widths
pub mod Locations
pub mod Reading
pub mod Fitting
pub mod OneRun
pub mod Flattened
pub mod Cased
pub mod Told
