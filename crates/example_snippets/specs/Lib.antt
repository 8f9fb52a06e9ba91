pub mod Proxied
pub mod Redirected
pub mod Relayed
