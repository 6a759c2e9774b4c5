pub mod Arrays
pub mod Flips
pub mod LineSteps
