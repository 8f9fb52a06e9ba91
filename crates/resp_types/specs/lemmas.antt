pub mod InOrder
pub mod Lists
pub mod LookUps
pub mod Sorted
pub mod Maps
pub mod Scalars
pub mod OneReply
