pub mod Word
pub mod Memory
pub mod Words
pub mod Lines
pub mod Standing
pub mod WordLaws
pub mod LinesLaws
pub mod EventsLaws
