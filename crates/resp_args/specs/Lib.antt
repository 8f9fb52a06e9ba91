pub mod Args
pub mod Comparisons
pub mod Joined
pub mod Kept
pub mod Options
pub mod SingleArg
