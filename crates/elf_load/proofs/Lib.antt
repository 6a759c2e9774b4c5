pub mod RuleLemmas
pub mod RamLemmas
pub mod WordLemmas
