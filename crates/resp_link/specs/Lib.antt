pub mod Linking
pub mod LinkStates
pub mod Messages
pub mod Receiving
pub mod SendingBodies
pub mod Sink
pub mod Streaming
