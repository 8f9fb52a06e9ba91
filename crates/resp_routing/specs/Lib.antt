pub mod Checksums
pub mod CommandArgs
pub mod Commands
pub mod Keys
pub mod Places
pub mod Refusals
pub mod Routes
pub mod Slots
