pub mod Builders
pub mod CompositeJson
pub mod Kinds
pub mod OrderJson
pub mod RequestJson
pub mod Unsupported
