pub mod Asked
pub mod Causes
pub mod Documents
pub mod Held
pub mod Values
