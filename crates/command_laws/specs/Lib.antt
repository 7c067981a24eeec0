pub mod ExampleDesign
pub mod ExampleP4
pub mod ExampleNet
pub mod ForwardsCompiled
pub mod Endings
pub mod Enough
pub mod Sound
