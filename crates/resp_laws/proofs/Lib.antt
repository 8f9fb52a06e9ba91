pub mod HashedAlike
pub mod OwnedAndBorrowed
pub mod ReadBack
