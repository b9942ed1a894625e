pub mod Digits
pub mod ReadBack
