pub mod Collector
pub mod Metric
