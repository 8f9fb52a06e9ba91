pub mod Greeted
pub mod Greetings
pub mod LookUps
pub mod ReadSettings
pub mod Replaced
pub mod ReplacedPushes
pub mod Slashes
pub mod Working
