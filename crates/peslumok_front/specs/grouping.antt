pub mod Divisions
pub mod Fields
pub mod Mins
pub mod Query
pub mod Request
pub mod Sources
