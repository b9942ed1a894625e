pub mod final_results
pub mod intermediate_results
pub mod metric_results
