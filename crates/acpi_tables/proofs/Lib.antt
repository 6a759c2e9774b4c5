pub mod BlockLemmas
pub mod TableLemmas
pub mod ReadBack
