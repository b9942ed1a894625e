pub mod Appending
pub mod BucketCount
pub mod JsonBytes
pub mod OwnMembers
pub mod PartTexts
pub mod PlainText
pub mod ResultsText
