pub mod Borrows
pub mod DynBorrows
pub mod EntryOrder
pub mod Eviction
pub mod Insertion
pub mod LazyBorrows
