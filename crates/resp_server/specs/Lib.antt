pub mod ArgIters
pub mod RequestLaw
pub mod Requests
pub mod Sending
pub mod Taking
