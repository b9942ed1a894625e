pub mod OneMore
pub mod lemmas
