pub mod Records
pub mod Notes
pub mod Drain
pub mod DrainLaws
pub mod Memory
pub mod Firmware
pub mod Pieces
pub mod Sent
