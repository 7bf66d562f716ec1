pub mod Rule
pub mod Invariant
pub mod Meant
