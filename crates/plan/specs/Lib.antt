pub mod File
pub mod Trailers
pub mod Plans
