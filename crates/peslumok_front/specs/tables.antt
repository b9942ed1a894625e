pub mod Cells
pub mod Columns
pub mod Groups
pub mod JsonLines
pub mod Output
pub mod Table
pub mod Visible
