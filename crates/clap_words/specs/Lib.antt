pub mod Reading
pub mod Numbers
pub mod Table
pub mod TableApp
pub mod GivenRows
