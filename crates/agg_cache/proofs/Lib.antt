mod BatchesById
mod Partitions
pub mod SameLimits
pub mod UnderIds
