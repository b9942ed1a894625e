pub mod Right
pub mod segment_context
