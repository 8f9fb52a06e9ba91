pub mod PassedOn
pub mod Sent
pub mod Words
