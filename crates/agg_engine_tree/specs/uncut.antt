pub mod Block
pub mod NodeData
pub mod Ranges
pub mod Uncut
pub mod Weights
