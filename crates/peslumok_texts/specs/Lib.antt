pub mod dates
pub mod decimals
pub mod fields
pub mod words
