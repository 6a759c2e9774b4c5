pub mod Places
pub mod ReadBack
