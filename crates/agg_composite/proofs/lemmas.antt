pub mod accessor
pub mod buckets
pub mod tuple_counts
