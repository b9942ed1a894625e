pub mod Json
pub mod Query
pub mod Reading
pub mod Unsupported
