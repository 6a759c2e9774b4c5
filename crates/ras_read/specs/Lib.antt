pub mod Values
pub mod Sections
pub mod Records
pub mod Firmware
pub mod Files
