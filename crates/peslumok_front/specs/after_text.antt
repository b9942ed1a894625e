pub mod After
pub mod AfterCells
