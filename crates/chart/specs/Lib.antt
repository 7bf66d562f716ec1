pub mod Charts
pub mod Sums
pub mod Laid
