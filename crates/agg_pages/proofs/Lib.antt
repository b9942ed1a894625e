pub mod GeneratedInputs
pub mod PlainWalks
pub mod Replies
pub mod Seeds
pub mod Statuses
pub mod Words
pub mod lemmas
