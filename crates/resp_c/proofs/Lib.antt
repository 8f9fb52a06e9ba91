mod AsBox
pub mod Bools
pub mod Cutting
pub mod Outcomes
mod Sent
pub mod Tokens
