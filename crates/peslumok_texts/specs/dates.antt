pub mod Dates
pub mod Units
