pub mod FileLemmas
pub mod Lines
pub mod VerdictsByWays
