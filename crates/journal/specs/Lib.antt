pub mod Numbers
pub mod Entries
pub mod Places
pub mod Passes
