mod Examples
pub mod Steps
pub mod Lists
pub mod Passing
pub mod Turns
pub mod Merging
pub mod Passages
pub mod Settling
pub mod Seating
pub mod Few
pub mod Handing
pub mod Ordering
pub mod Filling
pub mod Loading
pub mod Times
