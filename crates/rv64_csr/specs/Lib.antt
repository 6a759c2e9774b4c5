pub mod Table
pub mod Status
pub mod Interrupt
pub mod Csrs
pub mod Parts
