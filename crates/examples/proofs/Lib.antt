mod Smallest
pub mod Next
