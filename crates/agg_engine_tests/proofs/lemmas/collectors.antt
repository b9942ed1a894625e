pub mod TakingTrees
