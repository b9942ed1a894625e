pub mod Shown
pub mod Types
pub mod Values
pub mod Wholes
