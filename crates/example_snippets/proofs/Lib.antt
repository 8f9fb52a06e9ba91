pub mod SentPushes
