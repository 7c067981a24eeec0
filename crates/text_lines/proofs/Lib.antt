pub mod Bytes
pub mod Splitting
pub mod Digits
pub mod Printing
pub mod Seams
pub mod Joins
pub mod DecimalNumbers
