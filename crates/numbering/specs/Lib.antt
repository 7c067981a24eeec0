pub mod NameNumbers
pub mod KeyPlaces
pub mod NumberPlaces
