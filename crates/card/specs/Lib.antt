pub mod Limits
pub mod Tasks
pub mod Cards
pub mod Lines
pub mod Verdicts
pub mod Lawful
pub mod Times
