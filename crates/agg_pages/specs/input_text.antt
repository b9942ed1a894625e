pub mod Header
pub mod Input
pub mod Lines
pub mod PrintedAfterKeys
pub mod SnapshotLines
pub mod Snapshots
pub mod StoredInput
