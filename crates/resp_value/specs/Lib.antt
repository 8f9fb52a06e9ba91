pub mod FirstError
pub mod lemmas
pub mod MapIters
pub mod Names
pub mod Views
