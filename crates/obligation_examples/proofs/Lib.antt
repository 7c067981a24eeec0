pub mod Computed
pub mod SegmentsM
pub mod SegmentsT
pub mod SegmentsThree
pub mod RoundOfQ
