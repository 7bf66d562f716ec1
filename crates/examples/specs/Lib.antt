pub mod Samples
pub mod Worked
pub mod Instance
pub mod Known
