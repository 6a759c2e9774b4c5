pub mod SectionLemmas
pub mod SlotLemmas
pub mod ReadBack
