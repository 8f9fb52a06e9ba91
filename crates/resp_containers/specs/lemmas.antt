pub mod Clones
pub mod Equality
