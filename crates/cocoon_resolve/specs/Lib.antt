pub mod Saturated
pub mod Forms
pub mod Seen
pub mod First
pub mod Resolved
pub mod RuleTexts
pub mod Readers
pub mod Kept
