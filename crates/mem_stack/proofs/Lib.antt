pub mod Loaded
pub mod Zeros
pub mod Logs
