pub mod Walks
pub mod Transfers
pub mod Numbers
pub mod Endings
pub mod HartStates
pub mod Pages
pub mod HartsLemmas
