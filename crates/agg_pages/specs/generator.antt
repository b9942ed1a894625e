pub mod Documents
pub mod Draws
pub mod Generator
pub mod Request
