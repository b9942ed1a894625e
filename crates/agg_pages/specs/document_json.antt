pub mod AddedDocument
pub mod DocumentLine
pub mod Fields
pub mod LineTokens
pub mod Plain
pub mod Tokens
