pub mod Entries
pub mod Leaves
pub mod Names
pub mod Pages
pub mod Results
