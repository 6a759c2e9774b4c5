pub mod Fields
pub mod Immediates
pub mod Table
pub mod Decoding
pub mod Encoding
