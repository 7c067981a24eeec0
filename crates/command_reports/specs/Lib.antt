pub mod FileNames
pub mod Refusals
pub mod Report
pub mod DesignTexts
