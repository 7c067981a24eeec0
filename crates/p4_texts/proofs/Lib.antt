pub mod Complete
pub mod Ends
pub mod Exact
pub mod Finishes
pub mod Sound
pub mod SoundParts
pub mod Spells
pub mod WholeTexts
mod Lists
mod Words
mod Kept
mod Fits
mod Said
mod SaidWhole
mod Decimal
mod Back
mod BackKept
mod BackWhole
mod Standing
mod Within
