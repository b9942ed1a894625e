pub mod Encodings
pub mod Formats
