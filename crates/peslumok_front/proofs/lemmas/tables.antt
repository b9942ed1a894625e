pub mod CellLists
pub mod CsvCells
pub mod Harmless
pub mod JsonMembers
pub mod Parts
pub mod QuotedCells
pub mod RecordsBack
