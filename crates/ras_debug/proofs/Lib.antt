pub mod Steps
pub mod Lines
pub mod Sessions
pub mod Scripts
