pub mod InsideLemmas
pub mod TextLemmas
pub mod LineLemmas
