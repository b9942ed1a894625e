pub mod Cells
pub mod Csv
pub mod Quotes
pub mod Rows
pub mod Table
