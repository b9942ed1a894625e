pub mod Fruits
pub mod Segment
pub mod Trees
