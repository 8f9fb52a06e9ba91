pub mod Descriptions
pub mod Equality
pub mod Errors
pub mod Memory
pub mod Numerals
pub mod Redirects
pub mod Retries
pub mod ServerErrors
