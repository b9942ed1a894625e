pub mod Exits
pub mod Outcomes
