pub mod Commands
pub mod Via
pub mod Tuples
pub mod Wrappers
