pub mod Contexts
pub mod OneMore
