pub mod Turns
pub mod Intervals
