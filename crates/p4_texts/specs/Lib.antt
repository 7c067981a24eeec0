pub mod Machine
pub mod Reading
pub mod Written
pub mod TreeOf
pub mod Meant
pub mod KindFaults
pub mod TextOf
pub mod ReadText
