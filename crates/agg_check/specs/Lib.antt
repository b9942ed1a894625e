pub mod Check
pub mod findings
