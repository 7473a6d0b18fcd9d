pub mod Choosing
pub mod Numerals
pub mod Places
