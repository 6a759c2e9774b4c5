pub mod Headers
pub mod Rules
pub mod Memory
pub mod Bytes
pub mod Program
