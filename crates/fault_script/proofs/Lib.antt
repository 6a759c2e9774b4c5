pub mod WordLemmas
pub mod ReadingLemmas
pub mod JoinLemmas
pub mod RoundTrip
pub mod SortLemmas
pub mod StepLemmas
pub mod EditLemmas
pub mod WritingLemmas
