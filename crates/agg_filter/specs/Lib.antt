pub mod Filter
pub mod Matching
pub mod SubResults
