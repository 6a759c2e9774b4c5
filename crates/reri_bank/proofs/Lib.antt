pub mod ComesBack
pub mod Shown
pub mod Reached
