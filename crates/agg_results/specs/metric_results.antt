pub mod Merges
pub mod MetricMerging
pub mod MetricShown
