pub mod Appending
pub mod Encoding
pub mod Encodings
pub mod FlatEncoding
pub mod FlatLaw
pub mod Resp2
pub mod Resp2Encoding
