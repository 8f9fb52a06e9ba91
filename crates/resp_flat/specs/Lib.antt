pub mod FlatReplies
pub mod Reading
pub mod Readable
pub mod Refusals
pub mod FlatValues
