pub mod after_text
pub mod front
pub mod grouping
pub mod tables
pub mod top_groups
