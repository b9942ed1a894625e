pub mod Cuts
pub mod Offsets
pub mod Prefixes
pub mod Signs
pub mod Spelled
pub mod WordCuts
pub mod Words
