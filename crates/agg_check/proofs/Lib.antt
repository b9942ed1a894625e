pub mod Mistakes
pub mod RequestBuilders
pub mod Verdicts
pub mod lemmas
