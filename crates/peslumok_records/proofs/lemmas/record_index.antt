pub mod OneSnapshot
pub mod Seen
pub mod Words
