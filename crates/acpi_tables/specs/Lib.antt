pub mod TableHeader
pub mod ErrorSource
pub mod Tables
pub mod Entries
pub mod Blocks
pub mod Reading
pub mod Written
