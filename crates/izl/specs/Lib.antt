pub mod View
pub mod SoundState
pub mod Told
pub mod Served
