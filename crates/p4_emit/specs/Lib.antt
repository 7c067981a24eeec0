pub mod Printed
pub mod Pieces
pub mod ExampleMP4
