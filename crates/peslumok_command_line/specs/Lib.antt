pub mod Adds
pub mod Asked
pub mod AskedParts
pub mod CommandLine
pub mod Messages
pub mod Mistakes
pub mod OptionRules
pub mod Subcommands
