pub mod refusals
