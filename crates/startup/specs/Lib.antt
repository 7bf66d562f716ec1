pub mod Startup
