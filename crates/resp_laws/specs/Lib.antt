pub mod Laws
pub mod lemmas
pub mod OneValue
