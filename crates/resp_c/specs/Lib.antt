pub mod Calls
pub mod GivenTokens
pub mod Held
pub mod Packing
pub mod Replies
pub mod Sessions
pub mod Views
