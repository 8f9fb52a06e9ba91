pub mod Conclusions
pub mod KeptItems
pub mod LastCommand
pub mod Queries
pub mod Requests
pub mod SoFar
pub mod Transactions
