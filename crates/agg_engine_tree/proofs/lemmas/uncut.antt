pub mod AddedLengths
pub mod CutNumbers
pub mod FieldNumbers
pub mod JoinedBlocks
pub mod NodeData
pub mod Plans
pub mod StartRanges
pub mod WeighedLists
