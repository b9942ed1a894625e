pub mod storage
