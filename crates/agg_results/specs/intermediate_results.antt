pub mod Empty
pub mod Final
pub mod FinalError
pub mod Intermediate
pub mod Merging
pub mod Outcome
pub mod Refusals
pub mod Shown
