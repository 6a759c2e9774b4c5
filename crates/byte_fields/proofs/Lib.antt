pub mod AtOffset
