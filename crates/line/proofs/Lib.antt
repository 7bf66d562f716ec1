pub mod Orders
pub mod Numbers
mod Places
