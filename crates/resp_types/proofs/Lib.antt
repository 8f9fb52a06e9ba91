pub mod Copies
pub mod Doubles
pub mod Entries
pub mod Naming
pub mod Roles
pub mod TakingRows
