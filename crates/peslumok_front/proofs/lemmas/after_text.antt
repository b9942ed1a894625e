pub mod CsvCells
pub mod CsvLine
pub mod NamedKeys
pub mod Passed
pub mod ReadKeys
pub mod WrittenKeys
