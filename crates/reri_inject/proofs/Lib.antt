pub mod AnyCalls
