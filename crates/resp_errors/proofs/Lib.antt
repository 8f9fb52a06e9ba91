pub mod Digits
pub mod ErrorTexts
pub mod IoErrors
pub mod Words
