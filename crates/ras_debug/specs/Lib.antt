pub mod Commands
pub mod Requests
pub mod Asked
pub mod Running
pub mod Replies
pub mod Session
