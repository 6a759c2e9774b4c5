pub mod Records
pub mod Stops
pub mod Harts
pub mod Reports
pub mod Verdicts
pub mod VerdictLaws
pub mod VerdictWays
