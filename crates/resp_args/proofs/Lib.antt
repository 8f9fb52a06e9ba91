pub mod GrowingArgs
pub mod JoinedArgs
pub mod ReplacedArg
