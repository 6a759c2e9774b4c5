pub mod Due
pub mod DueLaws
pub mod Inject
pub mod Calls
pub mod CallsLaws
pub mod Critical
pub mod CriticalLaws
