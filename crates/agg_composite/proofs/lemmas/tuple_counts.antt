pub mod CountTurns
pub mod CountSums
pub mod GroupSteps
pub mod GroupedCounts
