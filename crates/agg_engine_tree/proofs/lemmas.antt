pub mod collector_tree
pub mod held_bytes
pub mod segment_context
pub mod tree_results
pub mod uncut
