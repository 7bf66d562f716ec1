pub mod Wrap
pub mod Told
