pub mod Stack
pub mod StackEntries
pub mod StackStands
pub mod StackLaws
pub mod EventsLaws
