pub mod Masks
pub mod Intervals
pub mod Slices
