pub mod Severity
pub mod Fru
pub mod Memory
pub mod Processor
pub mod Record
pub mod Reading
pub mod Written
