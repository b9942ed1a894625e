pub mod JsonRecords
pub mod Lines
pub mod Objects
pub mod Tokens
