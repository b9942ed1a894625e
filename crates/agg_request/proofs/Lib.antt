pub mod OtherBuilders
pub mod Writable
pub mod WrittenComposites
pub mod WrittenFilters
pub mod WrittenMembers
pub mod WrittenRequests
pub mod WrittenSources
pub mod lemmas
