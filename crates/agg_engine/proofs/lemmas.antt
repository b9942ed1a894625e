pub mod collectors
pub mod snapshot_results
