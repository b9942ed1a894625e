pub mod collectors
