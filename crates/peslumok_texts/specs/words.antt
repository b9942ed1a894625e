pub mod By
pub mod Condition
pub mod Cut
pub mod DateField
pub mod DecimalField
pub mod Metric
