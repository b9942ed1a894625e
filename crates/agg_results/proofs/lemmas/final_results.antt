pub mod AppendedComposites
pub mod AppendedItems
pub mod AppendedResults
pub mod Escapes
pub mod PutMembers
pub mod ResultFolds
