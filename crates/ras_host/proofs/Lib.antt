pub mod ToldLemmas
pub mod CallLemmas
pub mod CreatedLemmas
