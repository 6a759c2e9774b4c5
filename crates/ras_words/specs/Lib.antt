pub mod Tables
pub mod Run
pub mod Commands
pub mod Read
