pub mod Counts
pub mod Places
pub mod Books
pub mod Refused
pub mod Runs
pub mod Promise
pub mod Moves
pub mod Launched
