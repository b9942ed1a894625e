pub mod DrawnDocuments
pub mod NumbersDrawn
pub mod States
