pub mod Arguments
pub mod Connections
pub mod Pipelines
pub mod Replies
