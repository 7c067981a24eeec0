pub mod Uses
pub mod Tests
pub mod Among
