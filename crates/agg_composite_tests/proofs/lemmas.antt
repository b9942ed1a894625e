pub mod segment_context
