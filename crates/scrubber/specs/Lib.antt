pub mod PatrolState
pub mod Patrol
pub mod Interval
