pub mod ByKind
pub mod Readying
pub mod Queueing
pub mod Beginning
pub mod Slicing
pub mod Telling
