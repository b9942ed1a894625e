pub mod Added
pub mod NamedCommand
pub mod Names
pub mod Rows
pub mod Zips
