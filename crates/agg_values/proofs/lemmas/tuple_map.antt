pub mod LastTuples
pub mod TuplePlaces
pub mod TupleSteps
